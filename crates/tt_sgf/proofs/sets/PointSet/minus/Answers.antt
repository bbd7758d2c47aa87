use Rattle.std.proofs.Common.{ap, ◌∙◌}
use Rattle.std.specs.FinSet as set
use Rattle.tt_sgf.specs.MachineWords.{points_of}
use Rattle.tt_sgf.proofs.BitLemmas.{points-minus}
use Rattle.tt_sgf.proofs.sets.PointSet.minus.Goals as goal

pub returns : goal.returns
returns c =
    points-minus c.minus.result.words c.self.inside.bits.words c.other.inside.bits.words c.minus.ensures
    ∙ ap (λ s. set.difference s (points_of c.other.inside.bits.words)) c.self.view_is ∙ ap (set.difference c.args.self.now) c.other.view_is
