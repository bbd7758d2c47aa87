use Rattle.std.proofs.Common.{◌≡◌, take, IsTrue}
use Rattle.tt_board.proofs.boards.differences.Differences.same_edits.Given as goal

abbrev pub invariant-loop-k : goal.invariant-loop-k
invariant-loop-k l = IsTrue l.same → take l.k l.self ≡ take l.k l.other
