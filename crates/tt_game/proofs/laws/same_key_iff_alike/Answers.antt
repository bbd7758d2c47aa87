use Rattle.std.proofs.Common.{◌≡◌, ℕ, ◌<◌, Bool, sym, ap, ◌∙◌}
use Rattle.std.specs.FinSet as set
use Rattle.tt_board.specs.declared.Colour.TheVariants.{Black, White}
use Rattle.tt_board.specs.Reach.{entry_at}
use Rattle.tt_board.specs.Play.{is_stone_of}
use Rattle.tt_sgf.specs.declared.size.Size.{Size}
use Rattle.tt_sgf.specs.Sizes.{point_count}
use Rattle.tt_game.specs.declared.frame.Frame.{Frame}
use Rattle.tt_game.specs.declared.keys.Key.{Key}
use Rattle.tt_game.specs.Game.{State}
use Rattle.tt_game.specs.Keys.{key_of, LookAlike, bit_words}
use Rattle.tt_game.proofs.KeyLemmas.{bit_words_tells, bit_words_same, entries_tell}
use Rattle.tt_game.proofs.laws.same_key_iff_alike.Goals as goal

-- positions with the same key look alike
tells : (f g : Frame) (s t : State) → key_of f s ≡ key_of g t → LookAlike f g s t
unfolding key_of
tells f g s t e =
    let size : f.size ≡ g.size = ap (λ (k : Key). k.size) e in
    let same = λ (test tell : ℕ → Bool) (h : bit_words f.size test ≡ bit_words g.size tell). bit_words_tells f.size test tell (h ∙ ap (λ (x : Size). bit_words x tell) (sym size)) in
    let black = same (λ p. is_stone_of (entry_at s.present p) Black) (λ p. is_stone_of (entry_at t.present p) Black) (ap (λ (k : Key). k.black) e) in
    let white = same (λ p. is_stone_of (entry_at s.present p) White) (λ p. is_stone_of (entry_at t.present p) White) (ap (λ (k : Key). k.white) e) in
    record {
      size = size;
      region = same (λ p. set.contains f.region p) (λ p. set.contains g.region p) (ap (λ (k : Key). k.region) e);
      targets = same (λ p. set.contains f.targets p) (λ p. set.contains g.targets p) (ap (λ (k : Key). k.targets) e);
      defender = ap (λ (k : Key). k.defender) e;
      colouring = λ p lt. entries_tell (entry_at s.present p) (entry_at t.present p) (black p lt) (white p lt);
      to_move = ap (λ (k : Key). k.to_move) e;
      passes = ap (λ (k : Key). k.passes) e;
    }

-- positions that look alike have the same key
same : (f g : Frame) (s t : State) → LookAlike f g s t → key_of f s ≡ key_of g t
unfolding key_of
same f g s t h =
    let pack = λ (test tell : ℕ → Bool) (h' : (p : ℕ) → p < point_count f.size → test p ≡ tell p). bit_words_same f.size test tell h' ∙ ap (λ (x : Size). bit_words x tell) h.size in
    let region = pack (λ p. set.contains f.region p) (λ p. set.contains g.region p) h.region in
    let black = pack (λ p. is_stone_of (entry_at s.present p) Black) (λ p. is_stone_of (entry_at t.present p) Black) (λ p lt. ap (λ x. is_stone_of x Black) (h.colouring p lt)) in
    let white = pack (λ p. is_stone_of (entry_at s.present p) White) (λ p. is_stone_of (entry_at t.present p) White) (λ p lt. ap (λ x. is_stone_of x White) (h.colouring p lt)) in
    let targets = pack (λ p. set.contains f.targets p) (λ p. set.contains g.targets p) h.targets in
    let size = h.size in let defender = h.defender in let to_move = h.to_move in let passes = h.passes in
    λ i. record { size = size i; region = region i; targets = targets i; defender = defender i; black = black i; white = white i; to_move = to_move i; passes = passes i }

pub returns : goal.returns
returns c = λ f g s t. (tells f g s t, same f g s t)
