use Rattle.tt_sgf.specs.Sizes.{point_count}
use Rattle.tt_sgf.specs.MachineWords.{bit_in}
use Rattle.tt_marks.specs.Walls.{IsOfGroup}
use Rattle.tt_marks.proofs.SetLemmas.{has_of_set, passing_on_board}
use Rattle.tt_marks.proofs.regions.group.Goals as goal

pub returns-clause-those : goal.returns-clause-those
returns-clause-those c p in_p =
    has_of_set {X = IsOfGroup c.args.board.now.size c.args.board.now.points c.args.colour c.args.stone p} (bit_in c.group_bits.result.words) (point_count c.args.board.now.size) p
    c.set_of.result (rw c.size.ensures.value at c.set_of.ensures) in_p (c.group_bits.ensures.those p in_p)

pub returns-clause-on_board : goal.returns-clause-on_board
returns-clause-on_board c = passing_on_board (bit_in c.group_bits.result.words) (point_count c.args.board.now.size) c.set_of.result (rw c.size.ensures.value at c.set_of.ensures)
