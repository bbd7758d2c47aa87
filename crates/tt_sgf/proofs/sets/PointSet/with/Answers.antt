use Rattle.std.proofs.Common.{ap, ◌∙◌, arith}
use Rattle.std.specs.FinSet as set
use Rattle.tt_sgf.proofs.BitLemmas.{points-with}
use Rattle.tt_sgf.proofs.sets.PointSet.with.Goals as goal

pub invariant_of-result : goal.invariant_of-result
invariant_of-result c = λ q above small.
    c.set.ensures.others q small (λ same. omega (arith, same, above, c.from.ensures, c.number.ensures.number, c.number.ensures.bound)) ∙ c.self.invariant q above small

pub returns : goal.returns
returns c =
    let is = c.from.ensures ∙ c.number.ensures.number in
    points-with c.self.inside.bits.words c.set.new.self.words c.from.result (omega arith) c.set.ensures.same c.set.ensures.others ∙ ap (set.insert _) is
    ∙ ap (λ s. set.insert s c.args.p) c.self.view_is
