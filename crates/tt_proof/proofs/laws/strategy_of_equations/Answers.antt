use Rattle.tt_proof.proofs.StrategyLemmas.{trees_are_strategies}
use Rattle.tt_proof.proofs.laws.strategy_of_equations.Goals as goal

pub returns : goal.returns
returns c = trees_are_strategies
