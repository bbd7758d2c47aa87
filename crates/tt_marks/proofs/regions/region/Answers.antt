use Rattle.std.specs.FinSet as set
use Rattle.tt_sgf.specs.Sizes.{point_count}
use Rattle.tt_sgf.specs.MachineWords.{bit_in}
use Rattle.tt_marks.proofs.EnclosedLemmas.{only_enclosed}
use Rattle.tt_marks.proofs.SetLemmas.{passing_on_board, same_as_set}
use Rattle.tt_marks.proofs.WallLemmas.{region_is, same_region, same_wall}
use Rattle.tt_marks.proofs.regions.region.Goals as goal

pub returns-clause-wall : goal.returns-clause-wall
returns-clause-wall c =
    same_wall c.args.board.now.size c.args.board.now.points c.args.colour c.args.stone (bit_in c.wall_bits-wall.result.words) (set.contains c.set_of.result)
    (same_as_set (bit_in c.wall_bits-wall.result.words) (point_count c.args.board.now.size) c.set_of.result (rw c.size-size.ensures.value at c.set_of.ensures)) c.wall_bits-wall.ensures

pub returns-clause-points : goal.returns-clause-points
returns-clause-points c =
    same_region c.args.board.now.size c.args.board.now.points c.args.colour c.args.stone (bit_in c.wall_bits-wall.result.words) (set.contains c.set_of.result)
    (same_as_set (bit_in c.wall_bits-wall.result.words) (point_count c.args.board.now.size) c.set_of.result (rw c.size-size.ensures.value at c.set_of.ensures))
    (bit_in c.minus-points.result.words) (set.contains c.set_of-2.result)
    (same_as_set (bit_in c.minus-points.result.words) (point_count c.args.board.now.size) c.set_of-2.result (rw c.size-size.ensures.value at c.set_of-2.ensures))
    (region_is c.args.board.now.size c.args.board.now.points c.args.colour c.args.stone c.wall_bits-wall.result.words c.within-inside.result.words c.group_bits.result.words
    c.minus-points.result.words (rw c.size-size.ensures.value at c.within-inside.ensures.those) c.group_bits.ensures.those c.minus-points.ensures)

pub returns-clause-wall_on_board : goal.returns-clause-wall_on_board
returns-clause-wall_on_board c =
    passing_on_board (bit_in c.wall_bits-wall.result.words) (point_count c.args.board.now.size) c.set_of.result (rw c.size-size.ensures.value at c.set_of.ensures)

pub returns-clause-on_board : goal.returns-clause-on_board
returns-clause-on_board c =
    passing_on_board (bit_in c.minus-points.result.words) (point_count c.args.board.now.size) c.set_of-2.result (rw c.size-size.ensures.value at c.set_of-2.ensures)

pub returns-clause-only : goal.returns-clause-only
returns-clause-only c =
    only_enclosed c.args.board.now.size c.args.board.now.points c.args.colour c.args.stone c.set_of.result c.set_of-2.result
    (returns-clause-wall_on_board c) (returns-clause-on_board c) (returns-clause-wall c) (returns-clause-points c)
