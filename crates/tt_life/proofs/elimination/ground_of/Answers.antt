use Rattle.std.proofs.Common.{ap}
use Rattle.tt_sgf.specs.Sizes.{point_count}
use Rattle.tt_life.proofs.GroundLemmas.{ground_sound, ground_is}
use Rattle.tt_life.proofs.elimination.ground_of.Goals as goal

pub returns-clause-sound : goal.returns-clause-sound
returns-clause-sound c =
    ground_sound c.args.frame.now c.args.board.now.points (point_count c.args.board.now.size) (ap point_count c.requires.same_size)
    c.bits-stones.result.now.words c.bits-theirs.result.now.words c.bits-region.result.now.words c.bits-whole.result.now.words c.other.result c.other.ensures
    c.bits-stones.ensures c.bits-theirs.ensures c.bits-region.ensures c.whole-points.result c.whole-points.ensures c.bits-whole.ensures
    (record { space = c.minus-space.result; empty = c.minus-empty.result; outside = c.minus-outside.result })
    c.minus-space.ensures c.minus-empty.ensures c.minus-outside.ensures

pub returns-clause-ground : goal.returns-clause-ground
returns-clause-ground c =
    ground_is c.args.frame.now c.args.board.now.points (point_count c.args.board.now.size) (ap point_count c.requires.same_size)
    c.bits-stones.result.now.words c.bits-theirs.result.now.words c.bits-region.result.now.words c.bits-whole.result.now.words c.other.result c.other.ensures
    c.bits-stones.ensures c.bits-theirs.ensures c.bits-region.ensures c.whole-points.result c.whole-points.ensures c.bits-whole.ensures
    (record { space = c.minus-space.result; empty = c.minus-empty.result; outside = c.minus-outside.result })
    c.minus-space.ensures c.minus-empty.ensures c.minus-outside.ensures
