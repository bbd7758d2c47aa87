use Rattle.tt_marks.specs.Closings.{AreClosings}
use Rattle.tt_marks.proofs.closing_stones.closings.Given as goal

abbrev pub invariant-loop-enclosure : goal.invariant-loop-enclosure
invariant-loop-enclosure l = AreClosings l.board.size l.board.points l.colour l.stone l.found.items
