use Rattle.std.proofs.Common.{sym, subst}
use Rattle.tt_marks.specs.Closings.{AreClosings}
use Rattle.tt_marks.proofs.ClosingLemmas.{one_more}
use Rattle.tt_marks.proofs.closing_stones.list_if_closing.Goals as goal

pub returns-in_err-push : goal.returns-in_err-push
returns-in_err-push c = λ all.
    subst (AreClosings c.args.board.now.size c.args.board.now.points c.args.colour c.args.stone) (sym c.in_err-push.ensures.items) all

pub returns-in_ok-push : goal.returns-in_ok-push
returns-in_ok-push c = λ all.
    let s = c.args.board.now.size in
    let points = c.args.board.now.points in
    subst (AreClosings s points c.args.colour c.args.stone) (sym c.in_ok-push.ensures.items)
    (one_more s points c.args.colour c.args.stone c.args.found.now.items c.in-Some.closing all c.in-Some.ensures
    (rw c.as_slice.ensures.value at (c.are_as_many.ensures c.if-are_as_many.true) all.1))
