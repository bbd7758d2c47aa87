use Rattle.std.proofs.Common.{◌≡◌, ◌<◌, ◌≤◌, Bool, true, false, not, ◌&&◌, length, set, Some, refl, sym, ap, ◌∙◌, arith}
use Rattle.std.proofs.lemmas.Bool.{false≢true}
use Rattle.std.proofs.lemmas.List.{length-set}
use Rattle.tt_sgf.specs.Sizes.{point_count}
use Rattle.tt_sgf.specs.laws.SizeLaws.{point_count_is_bounded}
use Rattle.tt_sgf.specs.MachineWords.{bit_in}
use Rattle.tt_board.specs.Play.{play_of, length-play_of}
use Rattle.tt_game.specs.Game.{side_colour}
use Rattle.tt_game.proofs.MoveGeneratorLemmas.{no_capture_where_new}
use Rattle.tt_game.proofs.line.Line.some_with_new_colouring.Goals as goal

-- what is left of a set without another isn't in the other
not_other : (a b : Bool) → (a && not b) ≡ true → b ≡ false
not_other true false h = refl
not_other true true h = absurd (false≢true h)
not_other false b h = absurd (false≢true h)

this_one : (a b : Bool) → (a && not b) ≡ true → a ≡ true
this_one true b h = refl
this_one false b h = absurd (false≢true h)

pub returns : goal.returns
returns c = λ p on bit.
    let l = c.args.self.now in let k = side_colour l.frame l.state.to_move in let stood = c.args.stood.now.words in
    let few : point_count l.frame.size ≤ 361 = point_count_is_bounded l.frame.size in
    let small : p < 384 = omega (arith, on, few) in
    let left : (bit_in c.args.no_capture.now.words p && not (bit_in stood p)) ≡ true = sym (c.minus.ensures p small) ∙ bit in
    let facts : play_of l.frame.size l.state.present k p ≡ set l.state.present p (Some k) = c.requires.no_capture p on (this_one (bit_in c.args.no_capture.now.words p) (bit_in stood p) left) in
    let fits : length l.state.present ≡ point_count l.frame.size =
    sym (length-set l.state.present p (Some k)) ∙ ap length (sym facts) ∙ length-play_of l.frame.size l.state.present k p in
    let new : bit_in stood p ≡ false = not_other (bit_in c.args.no_capture.now.words p) (bit_in stood p) left in
    no_capture_where_new l.frame l.state k p refl fits on facts (λ d has stone. false≢true (sym new ∙ c.requires.stood d p has on stone))
