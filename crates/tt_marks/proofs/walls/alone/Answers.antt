use Rattle.tt_marks.proofs.WallLemmas.{alone_is, alone_on}
use Rattle.tt_marks.proofs.walls.alone.Goals as goal

pub returns-clause-those : goal.returns-clause-those
returns-clause-those c = λ size.
    alone_is size c.args.point c.none-made.result.words c.set.new.self.words c.none-made.ensures
    (rw c.number.ensures.number at (rw c.from.ensures at c.set.ensures.same)) (rw c.number.ensures.number at (rw c.from.ensures at c.set.ensures.others))

pub returns-clause-on_board : goal.returns-clause-on_board
returns-clause-on_board c = λ size on.
    alone_on size c.args.point c.none-made.result.words c.set.new.self.words on c.none-made.ensures (rw c.number.ensures.number at (rw c.from.ensures at c.set.ensures.others))
