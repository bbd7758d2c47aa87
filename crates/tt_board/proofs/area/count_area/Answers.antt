use Rattle.tt_board.proofs.AreaLemmas.{area_on, area_counted}
use Rattle.std.proofs.Common.{◌∙◌}
use Rattle.tt_board.proofs.area.count_area.Goals as goal

pub count-requires : goal.count-requires
count-requires c =
    area_on c.args.size c.args.points.now c.args.colour c.requires.fits c.bits.result.now.words c.args.own.now.words c.args.others.now.words c.minus.result.words c.or.result.words
    c.bits.ensures c.requires.own_reach c.requires.others_reach c.minus.ensures c.or.ensures c.requires.own_on_board

pub returns : goal.returns
returns c =
    c.count.ensures
    ∙ area_counted c.args.size c.args.points.now c.args.colour c.requires.fits c.bits.result.now.words c.args.own.now.words c.args.others.now.words c.minus.result.words c.or.result.words
    c.bits.ensures c.requires.own_reach c.requires.others_reach c.minus.ensures c.or.ensures
