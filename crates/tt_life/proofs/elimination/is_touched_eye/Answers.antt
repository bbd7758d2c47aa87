use Rattle.std.proofs.Common.{sym, ◌∙◌}
use Rattle.std.proofs.lemmas.Bool.{false≢true}
use Rattle.tt_life.proofs.EyeLemmas.{within_of, within_to, walled_of, walled_to}
use Rattle.tt_life.proofs.elimination.is_touched_eye.Goals as goal

pub returns-then-not-is_within_union : goal.returns-then-not-is_within_union
returns-then-not-is_within_union c = (
  λ h. absurd (false≢true h),
  λ w. sym c.if-not-is_within_union.true
      ∙ c.is_within_union.ensures.1 (walled_to c.args.size c.args.eye.now.words c.args.stones.now.words c.adjacent_points.result.words c.truncated_to-around.result.words
      c.adjacent_points.ensures c.point_count.result c.point_count.ensures.value c.truncated_to-around.ensures.kept c.truncated_to-around.ensures.none w.0),
)

pub returns : goal.returns
returns c = (
  λ h. (
    walled_of c.args.size c.args.eye.now.words c.args.stones.now.words c.adjacent_points.result.words c.truncated_to-around.result.words
        c.adjacent_points.ensures c.point_count.result c.point_count.ensures.value c.truncated_to-around.ensures.kept c.truncated_to-around.ensures.none
        (c.is_within_union.ensures.0 c.if-not-is_within_union.false),
    within_of c.args.size c.args.eye.now.words c.args.near.now.words (c.is_within_union-2.ensures.0 h),
  ),
  λ w. c.is_within_union-2.ensures.1 (within_to c.args.size c.args.eye.now.words c.args.near.now.words c.requires.on_board w.1),
)
