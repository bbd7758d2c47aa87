use Rattle.std.proofs.Common.{◌≡◌, take}
use Rattle.tt_proof.proofs.board_set.BoardSet.try_clone.Given as goal

abbrev pub invariant-loop-board : goal.invariant-loop-board
invariant-loop-board l = l.boards.items ≡ take l.board-index l.self
