use Rattle.std.proofs.Common.{ℕ, ◌<◌, get_or, Contains}
use Rattle.tt_board.specs.Position.{Position}
use Rattle.tt_proof.proofs.board_set.BoardSet.has_same_as.Given as goal

abbrev pub invariant-loop-k : goal.invariant-loop-k
invariant-loop-k l = (i : ℕ) (d : Position) → i < l.k → Contains l.self (get_or l.others i d)
