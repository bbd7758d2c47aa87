use Rattle.std.proofs.Common.{ℕ, ◌<◌, get_or}
use Rattle.tt_board.specs.Position.{Position}
use Rattle.tt_game.specs.BloomFilter.{MayHold, filter_index}
use Rattle.tt_game.proofs.history.bloom_filter.BloomFilter.of_boards.Given as goal

abbrev pub invariant-loop-board : goal.invariant-loop-board
invariant-loop-board l = (k : ℕ) (b : Position) → k < l.board-index → MayHold l.filter (filter_index (get_or l.boards k b).size (get_or l.boards k b).points)
