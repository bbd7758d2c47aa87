use Rattle.std.proofs.Common.{ℕ, ◌<◌, get_or, Contains}
use Rattle.tt_board.specs.Position.{Position}
use Rattle.tt_proof.proofs.board_set.BoardSet.has_none_of.Given as goal

abbrev pub invariant-loop-board : goal.invariant-loop-board
invariant-loop-board l = (k : ℕ) (d : Position) → k < l.board-index → Contains l.self (get_or l.boards k d) → ⊥
