use Rattle.std.proofs.Common.{arith}
use Rattle.tt_proof.proofs.StrategyLemmas.{strategy_of_done}
use Rattle.tt_proof.proofs.measured_tree.MeasuredTree.done.Goals as goal

pub invariant_of-result : goal.invariant_of-result
invariant_of-result c = rw strategy_of_done (grind arith, grind arith)

pub returns : goal.returns
returns c = strategy_of_done
