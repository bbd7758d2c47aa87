use Rattle.std.proofs.Common.{◌<◌, arith}
use Rattle.tt_sgf.specs.declared.bits.TheConstants.{BITS}
use Rattle.tt_marks.proofs.WallLemmas.{all_left, fewer_left, left_first, left_more}
use Rattle.tt_marks.proofs.walls.wall_bits.Goals as goal

pub loop-colour-init : goal.loop-colour-init
loop-colour-init c = left_first c.args.board.now.size c.args.board.now.points c.args.colour c.args.stone c.bits.result.now.words (rw c.other.ensures at c.bits.ensures)

pub returns-then-first_from-eq-BITS : goal.returns-then-first_from-eq-BITS
returns-then-first_from-eq-BITS c =
    all_left c.args.board.now.size c.args.board.now.points c.args.colour c.args.stone c.loop-colour.wall.words c.within-inside.result.words c.stones_with_liberty_outside-safe.result.words
    c.minus-gone.result.words c.loop-colour.invariant (rw c.size.ensures.value at c.within-inside.ensures.those)
    (rw c.other-in-loop-colour.ensures at c.stones_with_liberty_outside-safe.ensures.those) c.minus-gone.ensures
    (λ q lt. c.first_from.ensures.none q (omega arith) (omega (arith, lt, c.if-first_from-eq-BITS.true)) lt)

pub loop-colour-smaller : goal.loop-colour-smaller
loop-colour-smaller c =
    let lt : c.first_from.result < BITS = omega (arith, c.first_from.ensures.most, c.if-first_from-eq-BITS.false) in
    fewer_left c.args.board.now.size c.args.board.now.points c.args.colour c.args.stone c.loop-colour.wall.words c.within-inside.result.words c.stones_with_liberty_outside-safe.result.words
    c.minus-gone.result.words c.loop-colour.invariant (rw c.size.ensures.value at c.within-inside.ensures.those)
    (rw c.other-in-loop-colour.ensures at c.stones_with_liberty_outside-safe.ensures.those) c.minus-gone.ensures c.and-wall.result.words c.and-wall.ensures
    c.first_from.result lt (c.first_from.ensures.found lt)

pub loop-colour-preserved : goal.loop-colour-preserved
loop-colour-preserved c =
    left_more c.args.board.now.size c.args.board.now.points c.args.colour c.args.stone c.loop-colour.wall.words c.within-inside.result.words c.stones_with_liberty_outside-safe.result.words
    c.minus-gone.result.words c.loop-colour.invariant (rw c.size.ensures.value at c.within-inside.ensures.those)
    (rw c.other-in-loop-colour.ensures at c.stones_with_liberty_outside-safe.ensures.those) c.minus-gone.ensures c.and-wall.result.words c.and-wall.ensures
