use Rattle.tt_marks.proofs.ClosingLemmas.{NoneBelow}
use Rattle.tt_marks.proofs.closing_stones.stones_needed.Given as goal

abbrev pub invariant-loop-number : goal.invariant-loop-number
invariant-loop-number l = NoneBelow l.board.size l.board.points l.colour l.stone l.number
