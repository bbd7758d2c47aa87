use Rattle.std.proofs.Common.{sym, ap, ◌∙◌}
use Rattle.std.specs.FinSet as set
use Rattle.tt_sgf.specs.PointLists.{in_rectangle}
use Rattle.tt_sgf.proofs.EntryLemmas.{filled_more, filled_stays}
use Rattle.tt_sgf.proofs.point_lists.with_rectangle.Goals as goal
use Rattle.tt_sgf.proofs.point_lists.with_rectangle.Goals.{then-is_in_rectangle, else-is_in_rectangle}

pub loop-number-preserved : goal.loop-number-preserved
loop-number-preserved c = λ q.
    let points = c.args.points.now in
    let test = in_rectangle c.args.size.columns c.args.e in
    let n = c.loop-number.number in
    let is = ap (λ k. in_rectangle k c.args.e n) (sym c.columns-in-loop-number.ensures) ∙ sym c.is_in_rectangle.ensures in
    elim c.if-is_in_rectangle.branch [
      | then-is_in_rectangle w ↦
          let made = w.made-is ∙ w.with-made.ensures ∙ ap (set.insert c.loop-number.made) w.point_from_number.ensures in
          ap (λ s. set.contains s q) made ∙ filled_more points test c.loop-number.made n c.loop-number.invariant (is ∙ w.if-is_in_rectangle.true) q
      | else-is_in_rectangle w ↦
          ap (λ s. set.contains s q) w.made-is ∙ filled_stays points test c.loop-number.made n c.loop-number.invariant (is ∙ w.if-is_in_rectangle.false) q
    ]
