use Rattle.std.proofs.Common.{rules, ◌≡◌, ℕ, length, ◌<◌, ◌^◌, get_or, ap, ◌∙◌}
use Rattle.std.specs.FinSet as set
use Rattle.tt_board.specs.declared.Colour.{Colour}
use Rattle.tt_board.specs.declared.Colour.TheVariants.{Black, White}
use Rattle.tt_board.specs.Reach.{entry_at}
use Rattle.tt_board.specs.Play.{is_stone_of}
use Rattle.tt_sgf.specs.declared.size.Size.{Size}
use Rattle.tt_game.specs.Keys.{key_of, bit_words}
use Rattle.tt_game.proofs.KeyLemmas.{bit_words_is}
use Rattle.tt_game.proofs.keys.key_from_parts.Goals as goal

pub returns : goal.returns
unfolding key_of
returns c =
    let f = c.args.frame.now in
    let board = c.args.board.now in
    let six : length c.words_on_board.result ≡ 6 = search rules in
    let six_too : length c.words_on_board-2.result ≡ 6 = search rules in
    let six_black : length c.words.result ≡ 6 = search rules in
    let six_white : length c.words-2.result ≡ 6 = search rules in
    let region_fits : (k : ℕ) → get_or c.words_on_board.result k 0 < 2 ^ 64 = search rules in
    let targets_fit : (k : ℕ) → get_or c.words_on_board-2.result k 0 < 2 ^ 64 = search rules in
    let black_fits : (k : ℕ) → get_or c.words.result k 0 < 2 ^ 64 = search rules in
    let white_fits : (k : ℕ) → get_or c.words-2.result k 0 < 2 ^ 64 = search rules in
    let region = bit_words_is f.size (λ p. set.contains f.region p) c.words_on_board.result six region_fits c.words_on_board.ensures in
    let targets = bit_words_is f.size (λ p. set.contains f.targets p) c.words_on_board-2.result six_too targets_fit c.words_on_board-2.ensures in
    let stones = λ (k : Colour). (let m : bit_words board.size (λ p. is_stone_of (entry_at board.points p) k) ≡ bit_words f.size (λ p. is_stone_of (entry_at board.points p) k)
    = ap (λ (g : Size). bit_words g (λ p. is_stone_of (entry_at board.points p) k)) c.requires in m) in
    let black = bit_words_is board.size (λ p. is_stone_of (entry_at board.points p) Black) c.words.result six_black black_fits c.words.ensures ∙ stones Black in
    let white = bit_words_is board.size (λ p. is_stone_of (entry_at board.points p) White) c.words-2.result six_white white_fits c.words-2.ensures ∙ stones White in
    λ i. record { size = f.size; region = region i; targets = targets i; defender = f.defender; black = black i; white = white i; to_move = c.args.to_move; passes = c.args.passes }
