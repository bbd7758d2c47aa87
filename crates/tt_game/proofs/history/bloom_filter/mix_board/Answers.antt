use Rattle.std.proofs.Common.{rules, ◌≡◌, ℕ, ◌<◌, ◌^◌, length, get_or, ap, ◌∙◌}
use Rattle.tt_board.specs.declared.Colour.{Colour}
use Rattle.tt_board.specs.declared.Colour.TheVariants.{Black, White}
use Rattle.tt_board.specs.Reach.{entry_at}
use Rattle.tt_board.specs.Play.{is_stone_of}
use Rattle.tt_game.specs.Keys.{bit_words}
use Rattle.tt_game.specs.Mixing.{mix}
use Rattle.tt_game.proofs.KeyLemmas.{bit_words_is}
use Rattle.tt_game.proofs.history.bloom_filter.mix_board.Goals as goal

pub returns : goal.returns
returns c =
    let b = c.args.board.now in
    let stones = λ (k : Colour). bit_words b.size (λ p. is_stone_of (entry_at b.points p) k) in
    let six : length c.words.result ≡ 6 = search rules in
    let six_too : length c.words-2.result ≡ 6 = search rules in
    let fits : (k : ℕ) → get_or c.words.result k 0 < 2 ^ 64 = search rules in
    let fits_too : (k : ℕ) → get_or c.words-2.result k 0 < 2 ^ 64 = search rules in
    let black : c.words.result ≡ stones Black = bit_words_is b.size (λ p. is_stone_of (entry_at b.points p) Black) c.words.result six fits c.words.ensures in
    let white : c.words-2.result ≡ stones White = bit_words_is b.size (λ p. is_stone_of (entry_at b.points p) White) c.words-2.result six_too fits_too c.words-2.ensures in
    let first : c.mix-black.result ≡ mix 0 (stones Black) = c.mix-black.ensures ∙ ap (mix 0) black in
    c.mix.ensures ∙ ap (λ sum. mix sum c.words-2.result) first ∙ ap (mix (mix 0 (stones Black))) white
