use Rattle.std.proofs.Common.{◌<◌, arith}
use Rattle.tt_board.proofs.FillLemmas.{found_first, found_more, fewer_left, found_all, found_on}
use Rattle.tt_board.proofs.colouring.fill.reaching.Goals as goal

pub loop-size-init : goal.loop-size-init
loop-size-init c =
    found_first c.args.size c.args.own.now.words c.args.wanted.now.words c.requires.own_on_board c.adjacent_points.result.words c.and-found.result.words c.adjacent_points.ensures c.and-found.ensures

pub adjacent_points-requires-in-loop-size-clause-on_board : goal.adjacent_points-requires-in-loop-size-clause-on_board
adjacent_points-requires-in-loop-size-clause-on_board c =
    found_on c.args.size c.args.own.now.words c.args.wanted.now.words c.requires.own_on_board c.loop-size.found.words c.loop-size.invariant

pub returns-then-first_from-eq-BITS-clause-reaching : goal.returns-then-first_from-eq-BITS-clause-reaching
returns-then-first_from-eq-BITS-clause-reaching c =
    found_all c.args.size c.args.own.now.words c.args.wanted.now.words c.requires.own_on_board c.loop-size.found.words c.adjacent_points-in-loop-size.result.words c.and.result.words
    c.minus-more.result.words c.loop-size.invariant c.adjacent_points-in-loop-size.ensures c.and.ensures c.minus-more.ensures
    (λ q lt. c.first_from.ensures.none q (omega arith) (omega (arith, lt, c.if-first_from-eq-BITS.true)) lt)

pub returns-then-first_from-eq-BITS-clause-on_board : goal.returns-then-first_from-eq-BITS-clause-on_board
returns-then-first_from-eq-BITS-clause-on_board c =
    found_on c.args.size c.args.own.now.words c.args.wanted.now.words c.requires.own_on_board c.loop-size.found.words c.loop-size.invariant

pub loop-size-smaller : goal.loop-size-smaller
loop-size-smaller c =
    let lt : c.first_from.result < 384 = omega (arith, c.first_from.ensures.most, c.if-first_from-eq-BITS.false) in
    fewer_left c.args.size c.args.own.now.words c.args.wanted.now.words c.requires.own_on_board c.loop-size.found.words c.adjacent_points-in-loop-size.result.words c.and.result.words
    c.minus-more.result.words c.loop-size.invariant c.adjacent_points-in-loop-size.ensures c.and.ensures c.minus-more.ensures c.or-found.result.words c.or-found.ensures
    c.first_from.result lt (c.first_from.ensures.found lt)

pub loop-size-preserved : goal.loop-size-preserved
loop-size-preserved c =
    found_more c.args.size c.args.own.now.words c.args.wanted.now.words c.requires.own_on_board c.loop-size.found.words c.adjacent_points-in-loop-size.result.words c.and.result.words
    c.minus-more.result.words c.loop-size.invariant c.adjacent_points-in-loop-size.ensures c.and.ensures c.minus-more.ensures c.or-found.result.words c.or-found.ensures
