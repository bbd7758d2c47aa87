use Rattle.tt_board.specs.Around.{IsBesideSome}
use Rattle.tt_marks.proofs.ReachedLemmas.{cut_is, cut_on}
use Rattle.tt_marks.proofs.filling.beside.Goals as goal

pub returns-clause-beside : goal.returns-clause-beside
returns-clause-beside c =
    cut_is c.args.size c.adjacent_points.result.words c.truncated_to.result.words c.point_count.result {X = IsBesideSome c.args.size c.args.points.now.words}
    c.point_count.ensures.value c.adjacent_points.ensures c.truncated_to.ensures.kept

pub returns-clause-on_board : goal.returns-clause-on_board
returns-clause-on_board c = cut_on c.args.size c.truncated_to.result.words c.point_count.result c.point_count.ensures.value c.truncated_to.ensures.none
