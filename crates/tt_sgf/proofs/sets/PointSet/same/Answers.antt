use Rattle.std.proofs.Common.{sym, ◌∙◌}
use Rattle.tt_sgf.proofs.BitLemmas.{points_from-bits, bits_from-points}
use Rattle.tt_sgf.proofs.sets.PointSet.same.Goals as goal

pub returns : goal.returns
returns c =
    let a = c.self.inside.bits.words in let b = c.other.inside.bits.words in (
      λ yes. sym c.self.view_is ∙ points_from-bits a b (c.same.ensures.0 yes) ∙ c.other.view_is,
      λ same. c.same.ensures.1 (bits_from-points a b c.self.invariant c.other.invariant (c.self.view_is ∙ same ∙ sym c.other.view_is)),
    )
