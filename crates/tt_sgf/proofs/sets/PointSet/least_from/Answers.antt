use Rattle.std.proofs.Common.{◌≡◌, true, ap, sym, ◌∙◌, arith}
use Rattle.std.specs.FinSet as set
use Rattle.tt_sgf.proofs.BitLemmas.{has_point, no_point}
use Rattle.tt_sgf.proofs.sets.PointSet.least_from.Goals as goal

pub returns-then-n-gt360 : goal.returns-then-n-gt360
returns-then-n-gt360 c = λ q after.
    ap (λ s. set.contains s q) (sym c.self.view_is) ∙ no_point c.self.inside.bits.words q
    (λ small. c.first_from-n.ensures.none q (omega (arith, after, c.from.ensures)) (omega (arith, small, c.if-n-gt360.true)) (omega arith))

pub returns : goal.returns
returns c =
    let words = c.self.inside.bits.words in
    let n = c.first_from-n.result in
    let is : n ≡ c.point_from_number.result = sym c.point_from_number.ensures in
    let there : set.contains c.args.self.now n ≡ true =
    ap (λ s. set.contains s n) (sym c.self.view_is) ∙ has_point words n (omega (arith, c.if-n-gt360.false)) ∙ c.first_from-n.ensures.found (omega (arith, c.if-n-gt360.false)) in (
      ap (set.contains c.args.self.now) (sym is) ∙ there,
      omega (arith, is, c.first_from-n.ensures.after, c.from.ensures, c.if-n-gt360.false),
      λ q after before. ap (λ s. set.contains s q) (sym c.self.view_is)
          ∙ no_point words q (λ small. c.first_from-n.ensures.none q (omega (arith, after, c.from.ensures)) (omega (arith, is, before)) (omega arith)),
      omega (arith, is, c.if-n-gt360.false),
    )
