use Rattle.std.proofs.Common.{ap, sym, ◌∙◌}
use Rattle.std.specs.FinSet as set
use Rattle.tt_sgf.proofs.BitLemmas.{has_point}
use Rattle.tt_sgf.proofs.sets.PointSet.bits.Goals as goal

pub returns : goal.returns
returns c = record {
  below = λ p is_point small. sym (has_point c.self.inside.bits.words p is_point) ∙ ap (λ s. set.contains s p) c.self.view_is;
  behind = c.self.invariant;
}
