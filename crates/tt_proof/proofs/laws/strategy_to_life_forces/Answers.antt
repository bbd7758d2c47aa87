use Rattle.tt_proof.proofs.HoldsLemmas.{strategy_holds, strategy_forces}
use Rattle.tt_proof.proofs.laws.strategy_to_life_forces.Goals as goal

pub returns : goal.returns
returns c = λ side f u s w. (λ n h. strategy_holds side f u s n w h, λ is. strategy_forces side f u s is w)
