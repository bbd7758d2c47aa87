use Rattle.std.proofs.Common.{◌<◌, arith}
use Rattle.tt_sgf.specs.declared.bits.TheConstants.{BITS}
use Rattle.tt_life.proofs.FoundEyesLemmas.{one_of_none, one_of_rest, two_of_rest}
use Rattle.tt_life.proofs.elimination.two_touched_eyes.Goals as goal

pub returns-then-one-eq-BITS : goal.returns-then-one-eq-BITS
returns-then-one-eq-BITS c =
    one_of_none c.args.size c.args.ground.now c.requires.sound c.args.stones.now.words c.args.near.now.words c.touched_eyes-eyes.result.words c.touched_eyes-eyes.ensures
    (λ q lt. c.first_from-one.ensures.none q (omega arith) (omega (arith, lt, c.if-one-eq-BITS.true)) lt)

pub linked_to-eye-requires-clause-mine : goal.linked_to-eye-requires-clause-mine
linked_to-eye-requires-clause-mine c =
    let lt : c.first_from-one.result < BITS = omega (arith, c.first_from-one.ensures.most, c.if-one-eq-BITS.false) in
    c.requires.sound.empty_within c.first_from-one.result ((c.touched_eyes-eyes.ensures c.first_from-one.result lt).0 (c.first_from-one.ensures.found lt)).0

pub returns-then-other-eq-BITS : goal.returns-then-other-eq-BITS
returns-then-other-eq-BITS c =
    let lt : c.first_from-one.result < BITS = omega (arith, c.first_from-one.ensures.most, c.if-one-eq-BITS.false) in
    one_of_rest c.args.size c.args.ground.now c.requires.sound c.args.stones.now.words c.args.near.now.words c.touched_eyes-eyes.result.words c.touched_eyes-eyes.ensures
    c.first_from-one.result lt (c.first_from-one.ensures.found lt) c.linked_to-eye.result.words c.minus.result.words c.linked_to-eye.ensures.linked c.minus.ensures
    (λ q in_q. c.first_from-other.ensures.none q (omega arith) (omega (arith, in_q, c.if-other-eq-BITS.true)) in_q)

pub returns : goal.returns
returns c =
    let lt : c.first_from-one.result < BITS = omega (arith, c.first_from-one.ensures.most, c.if-one-eq-BITS.false) in
    let in_other : c.first_from-other.result < BITS = omega (arith, c.first_from-other.ensures.most, c.if-other-eq-BITS.false) in
    two_of_rest c.args.size c.args.ground.now c.requires.sound c.args.stones.now.words c.args.near.now.words c.touched_eyes-eyes.result.words c.touched_eyes-eyes.ensures
    c.first_from-one.result lt (c.first_from-one.ensures.found lt) c.linked_to-eye.result.words c.minus.result.words c.linked_to-eye.ensures.linked c.minus.ensures
    c.first_from-other.result in_other (c.first_from-other.ensures.found in_other)
