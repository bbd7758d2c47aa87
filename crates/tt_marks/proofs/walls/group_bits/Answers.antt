use Rattle.tt_marks.proofs.WallLemmas.{group_is, stones_on}
use Rattle.tt_marks.proofs.walls.group_bits.Goals as goal

pub reached-requires-clause-free : goal.reached-requires-clause-free
reached-requires-clause-free c = rw c.size.ensures.value (stones_on c.args.board.now.size c.bits.result.now.words _ c.bits.ensures)

pub returns-clause-those : goal.returns-clause-those
returns-clause-those c =
    group_is c.args.board.now.size c.args.board.now.points c.args.colour c.args.stone c.bits.result.now.words c.alone.result.words c.reached.result.words c.bits.ensures
    (c.alone.ensures.those c.args.board.now.size) (rw c.size.ensures.value at c.reached.ensures.reached)
