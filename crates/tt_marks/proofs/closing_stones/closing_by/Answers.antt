use Rattle.std.proofs.Common.{arith, subst, sym}
use Rattle.tt_board.specs.Stones.{PointNumberSet}
use Rattle.tt_marks.specs.Closings.{AreEmptyPoints, ClosesWall}
use Rattle.tt_marks.proofs.ClosingLemmas.{closing_is, in_empty_set}
use Rattle.tt_marks.proofs.closing_stones.closing_by.Goals as goal

pub returns : goal.returns
returns c =
    let on_empty : AreEmptyPoints c.args.board.now.size c.args.board.now.points c.args.stones.now =
    λ p h. in_empty_set c.args.board.now.size c.args.board.now.points p (rw c.empties.ensures at (c.are_among.ensures c.if-not-are_among.false p h)) in
    let closes = closing_is c.args.board.now.size c.args.board.now.points c.args.colour c.other.result c.args.stone c.args.stones.now c.region-found.result.wall
    c.region-found.result.points c.in_ok-next.next c.requires.stands c.other.ensures (grind arith) (grind arith) on_empty c.in_ok-next.ensures
    c.region-found.ensures.wall c.region-found.ensures.points c.region-found.ensures.wall_on_board c.region-found.ensures.on_board (c.is_closed.ensures.0 c.if-not-is_closed.false)
    (c.are_among-2.ensures c.if-not-are_among-2.false) (c.is_inner.ensures.0 c.if-not-is_inner.false) (c.are_needed.ensures c.if-not-are_needed.false)
    (λ several. c.requires.fewest (grind arith)) in
    subst (λ (x : PointNumberSet). ClosesWall c.args.board.now.size c.args.board.now.points c.args.colour c.args.stone x c.region-found.result.points) (sym c.copy.ensures) closes
