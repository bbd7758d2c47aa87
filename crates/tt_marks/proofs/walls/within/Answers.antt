use Rattle.tt_marks.proofs.WallLemmas.{within_is}
use Rattle.tt_marks.proofs.walls.within.Goals as goal

pub returns-clause-those : goal.returns-clause-those
returns-clause-those c =
    within_is c.args.size c.args.point c.whole.result.words c.args.stones.now.words c.minus.result.words c.alone.result.words c.reached.result.words
    c.whole.ensures.on c.minus.ensures (c.alone.ensures.those c.args.size) c.reached.ensures.reached
