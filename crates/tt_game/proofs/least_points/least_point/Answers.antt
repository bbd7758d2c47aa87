use Rattle.tt_game.proofs.FaultLemmas.{least_point_is}
use Rattle.tt_game.proofs.least_points.least_point.Goals as goal

pub returns : goal.returns
returns c = least_point_is c.args.points.now c.least.result c.least.ensures
