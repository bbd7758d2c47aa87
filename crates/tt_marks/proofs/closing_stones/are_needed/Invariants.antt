use Rattle.tt_marks.proofs.ClosingLemmas.{AreNeededBelow}
use Rattle.tt_marks.proofs.closing_stones.are_needed.Given as goal

abbrev pub invariant-loop-number : goal.invariant-loop-number
invariant-loop-number l = AreNeededBelow l.board.size l.board.points l.colour l.stone l.stones l.number
