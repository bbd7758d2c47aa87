use Rattle.std.proofs.Common.{◌≡◌, ◌*◌, ◌/◌, ◌%◌, ◌^◌, [], ◌∷◌, ap, ◌∙◌}
use Rattle.tt_game.specs.declared.history.bloom_filter.TheConstants.{MIXER}
use Rattle.tt_game.specs.Keys.{key_of}
use Rattle.tt_game.specs.KeyHash.{hash_of_key, mover_and_passes_word}
use Rattle.tt_game.specs.Mixing.{mix, mix_board}
use Rattle.tt_game.proofs.line.Line.key_hash.Goals as goal

pub returns : goal.returns
unfolding hash_of_key key_of
returns c =
    let f = c.args.self.now.frame in
    let s = c.args.self.now.state in
    let board : c.mix_board.result ≡ mix_board f.size s.present =
    c.mix_board.ensures ∙ ap (λ z. mix_board z c.present.result.now.points) c.present.ensures.size ∙ ap (mix_board f.size) c.present.ensures.points in
    let turn : c.mover_and_passes_word-turn.result ≡ mover_and_passes_word s.to_move s.passes =
    c.mover_and_passes_word-turn.ensures ∙ ap (λ t. mover_and_passes_word t c.passes.result) c.to_move.ensures ∙ ap (mover_and_passes_word s.to_move) c.passes.ensures.value in
    c.hash_of_board_and_mover.ensures ∙ ap (λ n. mix n (c.mover_and_passes_word-turn.result ∷ []) * MIXER % 2 ^ 64 / 2 ^ 32) board
    ∙ ap (λ w. mix (mix_board f.size s.present) (w ∷ []) * MIXER % 2 ^ 64 / 2 ^ 32) turn
