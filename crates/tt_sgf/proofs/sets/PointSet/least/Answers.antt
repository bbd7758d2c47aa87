use Rattle.tt_sgf.proofs.BitLemmas.{least_is}
use Rattle.tt_sgf.proofs.sets.PointSet.least.Goals as goal

pub returns : goal.returns
returns c = least_is c.args.self.now c.least_from.result c.least_from.ensures
