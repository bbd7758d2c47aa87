use Rattle.tt_marks.proofs.EnclosedLemmas.{IsBestBefore}
use Rattle.tt_marks.proofs.proposals.best_closed.Given as goal

abbrev pub invariant-loop-number : goal.invariant-loop-number
invariant-loop-number l = IsBestBefore l.board.size l.board.points l.number l.best
