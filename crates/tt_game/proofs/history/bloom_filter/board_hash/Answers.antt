use Rattle.std.proofs.Common.{◌*◌, ◌%◌, ◌^◌, ap}
use Rattle.tt_game.specs.declared.history.bloom_filter.TheConstants.{MIXER}
use Rattle.tt_game.specs.Mixing.{board_hash}
use Rattle.tt_game.proofs.history.bloom_filter.board_hash.Goals as goal

pub returns : goal.returns
unfolding board_hash
returns c = ap (λ n. n * MIXER % 2 ^ 64) c.mix_board.ensures
