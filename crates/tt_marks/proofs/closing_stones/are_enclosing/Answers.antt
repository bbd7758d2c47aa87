use Rattle.tt_marks.proofs.ClosingLemmas.{walled_in_there}
use Rattle.tt_marks.proofs.closing_stones.are_enclosing.Goals as goal

pub returns : goal.returns
returns c = λ h.
    c.is_walled_in.ensures.1 (walled_in_there c.args.board.now.size c.args.board.now.points c.args.colour c.other.result c.args.stone c.args.points.now c.in-Some.next
    c.other.ensures c.in-Some.ensures h)
