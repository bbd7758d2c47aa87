use Rattle.std.proofs.Common.{ap, sym, ◌∙◌, arith}
use Rattle.std.specs.FinSet as set
use Rattle.tt_sgf.proofs.BitLemmas.{has_point}
use Rattle.tt_sgf.proofs.sets.PointSet.has.Goals as goal

pub returns : goal.returns
returns c =
    c.has.ensures ∙ sym (has_point c.self.inside.bits.words c.from.result (omega arith)) ∙ ap (λ s. set.contains s c.from.result) c.self.view_is
    ∙ ap (set.contains c.args.self.now) (c.from.ensures ∙ c.number.ensures.number)
