use Rattle.std.proofs.Common.{arith}
use Rattle.tt_sgf.proofs.BitLemmas.{points-empty}
use Rattle.tt_sgf.proofs.sets.PointSet.empty.Goals as goal

pub returns : goal.returns
returns c = points-empty c.none.result.words (λ q small. c.none.ensures q (omega arith))
