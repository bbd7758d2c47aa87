use Rattle.std.proofs.Common.{◌<◌, sym, ◌∙◌, arith}
use Rattle.std.proofs.lemmas.Bool.{true≢false, and_parts}
use Rattle.tt_sgf.specs.Sizes.{point_count}
use Rattle.tt_life.proofs.LinkedSetLemmas.{small}
use Rattle.tt_life.proofs.EyeLemmas.{start_empty}
use Rattle.tt_life.proofs.FoundEyesLemmas.{eyes_to, eyes_none, eyes_one, eyes_all}
use Rattle.tt_life.proofs.elimination.touched_eyes.Goals as goal

pub returns-then-p-point_count : goal.returns-then-p-point_count
returns-then-p-point_count c =
    let was = eyes_to c.args.size c.args.ground.now.space.words c.args.near.now.words c.args.ground.now.empty.words c.args.stones.now.words
    c.loop-size.eyes.words c.loop-size.done.words c.and-starts.result.words c.minus.result.words c.loop-size.next c.first_from-p.result
    c.and-starts.ensures c.minus.ensures c.first_from-p.ensures.none c.loop-size.invariant.1 in
    eyes_all c.args.size c.args.ground.now.space.words c.args.near.now.words c.args.ground.now.empty.words c.args.stones.now.words
    c.loop-size.eyes.words c.loop-size.done.words c.first_from-p.result (omega (arith, c.if-p-point_count.true, c.point_count.ensures.value)) was

pub linked_to-eye-requires-clause-mine : goal.linked_to-eye-requires-clause-mine
linked_to-eye-requires-clause-mine c =
    let in_p : c.first_from-p.result < point_count c.args.size = omega (arith, c.if-p-point_count.false, c.point_count.ensures.value) in
    let lt = small c.args.size c.first_from-p.result in_p in
    c.requires.sound.empty_within c.first_from-p.result
    (start_empty c.args.size c.args.near.now.words c.args.ground.now.empty.words c.and-starts.result.words c.and-starts.ensures c.first_from-p.result in_p
    (and_parts _ _ (sym (c.minus.ensures c.first_from-p.result lt) ∙ c.first_from-p.ensures.found lt)).0)

pub loop-size-preserved-then-not-is_touched_eye : goal.loop-size-preserved-then-not-is_touched_eye
loop-size-preserved-then-not-is_touched_eye c =
    let in_p : c.first_from-p.result < point_count c.args.size = omega (arith, c.if-p-point_count.false, c.point_count.ensures.value) in
    let lt = small c.args.size c.first_from-p.result in_p in
    let mine = c.requires.sound.empty_within c.first_from-p.result
    (start_empty c.args.size c.args.near.now.words c.args.ground.now.empty.words c.and-starts.result.words c.and-starts.ensures c.first_from-p.result in_p
    (and_parts _ _ (sym (c.minus.ensures c.first_from-p.result lt) ∙ c.first_from-p.ensures.found lt)).0) in
    let was = eyes_to c.args.size c.args.ground.now.space.words c.args.near.now.words c.args.ground.now.empty.words c.args.stones.now.words
    c.loop-size.eyes.words c.loop-size.done.words c.and-starts.result.words c.minus.result.words c.loop-size.next c.first_from-p.result
    c.and-starts.ensures c.minus.ensures c.first_from-p.ensures.none c.loop-size.invariant.1 in (
      omega (arith, lt),
      eyes_none c.args.size c.args.ground.now.space.words c.args.near.now.words c.args.ground.now.empty.words c.args.stones.now.words
          c.loop-size.eyes.words c.loop-size.done.words c.linked_to-eye.result.words c.or-done.result.words c.first_from-p.result
          mine c.linked_to-eye.ensures.linked c.linked_to-eye.ensures.still_on_board c.or-done.ensures was
          (λ walled within. true≢false (sym (c.is_touched_eye.ensures.1 (walled, within)) ∙ c.if-not-is_touched_eye.true)),
    )

pub loop-size-preserved : goal.loop-size-preserved
loop-size-preserved c =
    let in_p : c.first_from-p.result < point_count c.args.size = omega (arith, c.if-p-point_count.false, c.point_count.ensures.value) in
    let lt = small c.args.size c.first_from-p.result in_p in
    let mine = c.requires.sound.empty_within c.first_from-p.result
    (start_empty c.args.size c.args.near.now.words c.args.ground.now.empty.words c.and-starts.result.words c.and-starts.ensures c.first_from-p.result in_p
    (and_parts _ _ (sym (c.minus.ensures c.first_from-p.result lt) ∙ c.first_from-p.ensures.found lt)).0) in
    let was = eyes_to c.args.size c.args.ground.now.space.words c.args.near.now.words c.args.ground.now.empty.words c.args.stones.now.words
    c.loop-size.eyes.words c.loop-size.done.words c.and-starts.result.words c.minus.result.words c.loop-size.next c.first_from-p.result
    c.and-starts.ensures c.minus.ensures c.first_from-p.ensures.none c.loop-size.invariant.1 in
    let is = c.is_touched_eye.ensures.0 c.if-not-is_touched_eye.false in (
      omega (arith, lt),
      eyes_one c.args.size c.args.ground.now.space.words c.args.near.now.words c.args.ground.now.empty.words c.args.stones.now.words
          c.loop-size.eyes.words c.loop-size.done.words c.linked_to-eye.result.words c.or-done.result.words c.first_from-p.result
          mine c.linked_to-eye.ensures.linked c.linked_to-eye.ensures.still_on_board c.or-done.ensures was
          is.0 is.1 c.and-starts.result.words c.and.result.words c.or-eyes.result.words c.and-starts.ensures c.and.ensures c.or-eyes.ensures,
    )
