use Rattle.tt_marks.proofs.WallLemmas.{safe_is}
use Rattle.tt_marks.proofs.walls.stones_with_liberty_outside.Goals as goal

pub returns-clause-those : goal.returns-clause-those
returns-clause-those c =
    safe_is c.args.board.now.size c.args.board.now.points c.args.wall_colour c.bits-stones.result.now.words c.empty_points.result.words c.args.inside.now.words c.minus-liberties.result.words
    c.beside.result.words c.and.result.words c.reached.result.words c.bits-stones.ensures c.empty_points.ensures.those c.minus-liberties.ensures
    (rw c.size-2.ensures.value at c.beside.ensures.beside) c.and.ensures (rw c.size.ensures.value at c.reached.ensures.reached)
