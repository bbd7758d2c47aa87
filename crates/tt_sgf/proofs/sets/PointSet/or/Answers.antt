use Rattle.std.proofs.Common.{ap, ◌∙◌}
use Rattle.std.specs.FinSet as set
use Rattle.tt_sgf.specs.MachineWords.{points_of}
use Rattle.tt_sgf.proofs.BitLemmas.{points-or}
use Rattle.tt_sgf.proofs.sets.PointSet.or.Goals as goal

pub returns : goal.returns
returns c =
    points-or c.or.result.words c.self.inside.bits.words c.other.inside.bits.words c.or.ensures ∙ ap (λ s. set.union s (points_of c.other.inside.bits.words)) c.self.view_is
    ∙ ap (set.union c.args.self.now) c.other.view_is
