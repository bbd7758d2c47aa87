use Rattle.tt_marks.proofs.ReachedLemmas.{all_reached}
use Rattle.tt_marks.proofs.WallLemmas.{minus_on, or_on}
use Rattle.tt_marks.proofs.filling.reached.Goals as goal

pub reaching-requires-clause-own_on_board : goal.reaching-requires-clause-own_on_board
reaching-requires-clause-own_on_board c = minus_on c.args.size c.args.free.now.words c.args.first.now.words c.minus.result.words c.requires.free c.minus.ensures

pub returns-clause-reached : goal.returns-clause-reached
returns-clause-reached c =
    all_reached c.args.size c.args.free.now.words c.args.first.now.words c.minus.result.words c.reaching.result.words c.or.result.words c.minus.ensures c.reaching.ensures.reaching c.or.ensures

pub returns-clause-on_board : goal.returns-clause-on_board
returns-clause-on_board c = or_on c.args.size c.reaching.result.words c.args.first.now.words c.or.result.words c.reaching.ensures.on_board c.requires.first c.or.ensures
