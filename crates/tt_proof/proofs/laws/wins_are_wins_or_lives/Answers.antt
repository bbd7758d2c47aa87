use Rattle.tt_proof.proofs.HoldsLemmas.{wins_either, attacker_wins}
use Rattle.tt_proof.proofs.laws.wins_are_wins_or_lives.Goals as goal

pub returns : goal.returns
returns c = λ f u s. (λ side w. wins_either side f u s w, λ w. attacker_wins f u s w)
