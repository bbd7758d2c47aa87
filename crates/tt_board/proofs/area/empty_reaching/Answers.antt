use Rattle.std.proofs.Common.{None, Some}
use Rattle.std.proofs.lemmas.Option.{none-some}
use Rattle.tt_board.proofs.FillLemmas.{stones_on, stones_those}
use Rattle.tt_board.proofs.area.empty_reaching.Goals as goal

pub reaching-requires-clause-wanted_on_board : goal.reaching-requires-clause-wanted_on_board
reaching-requires-clause-wanted_on_board c = stones_on c.args.size c.args.points.now c.requires.fits c.args.colour c.bits.result.now.words c.bits.ensures

pub returns-clause-reach : goal.returns-clause-reach
returns-clause-reach c =
    c.reaching.ensures.reaching c.args.points.now None (Some c.args.colour) (none-some c.args.colour) c.requires.those
    (stones_those c.args.size c.args.points.now c.requires.fits c.args.colour c.bits.result.now.words c.bits.ensures)
