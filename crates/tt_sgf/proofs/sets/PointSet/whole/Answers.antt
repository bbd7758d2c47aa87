use Rattle.std.proofs.Common.{◌≡◌, ◌+◌, suc, true, refl, sym, ap, ◌∙◌, arith}
use Rattle.std.specs.FinSet as set
use Rattle.tt_sgf.specs.Points.{passing}
use Rattle.tt_sgf.specs.laws.PointLaws.{passing-zero, passing-in}
use Rattle.tt_sgf.proofs.sets.PointSet.whole.Goals as goal

pub loop-number-init : goal.loop-number-init
loop-number-init c = c.empty-made.ensures ∙ sym (passing-zero (λ q. true))

pub loop-number-preserved : goal.loop-number-preserved
loop-number-preserved c =
    let n = c.loop-number.number in
    let up : n + 1 ≡ suc n = omega arith in
    c.with-made.ensures ∙ ap (set.insert c.loop-number.made) c.point_from_number.ensures ∙ ap (λ s. set.insert s n) c.loop-number.invariant
    ∙ sym (ap (passing (λ q. true)) up ∙ passing-in (λ q. true) n refl)
