use Rattle.std.proofs.Common.{ap, ◌∙◌}
use Rattle.std.specs.FinSet as set
use Rattle.tt_sgf.specs.MachineWords.{points_of}
use Rattle.tt_sgf.proofs.BitLemmas.{points-and}
use Rattle.tt_sgf.proofs.sets.PointSet.and.Goals as goal

pub returns : goal.returns
returns c =
    points-and c.and.result.words c.self.inside.bits.words c.other.inside.bits.words c.and.ensures
    ∙ ap (λ s. set.intersection s (points_of c.other.inside.bits.words)) c.self.view_is ∙ ap (set.intersection c.args.self.now) c.other.view_is
