use Rattle.std.proofs.Common.{sym, subst}
use Rattle.tt_marks.specs.Closings.{AreClosings}
use Rattle.tt_marks.proofs.ClosingLemmas.{no_closings}
use Rattle.tt_marks.proofs.closing_stones.closings.Goals as goal

pub loop-enclosure-init : goal.loop-enclosure-init
loop-enclosure-init c =
    let s = c.args.board.now.size in
    let points = c.args.board.now.points in
    subst (AreClosings s points c.args.colour c.args.stone) (sym c.new-found.ensures.items) (no_closings s points c.args.colour c.args.stone)
