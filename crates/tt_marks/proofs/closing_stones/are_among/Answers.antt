use Rattle.tt_marks.proofs.ClosingLemmas.{none_left_out}
use Rattle.tt_marks.proofs.closing_stones.are_among.Goals as goal

pub returns : goal.returns
returns c = λ h. none_left_out c.args.points.now c.args.others.now c.minus.result c.minus.ensures (rw c.empty.ensures at (c.same.ensures.0 h))
