use Rattle.tt_life.proofs.LifeLemmas.{held}
use Rattle.tt_life.proofs.laws.won_or_lives_is_held.Goals as goal

pub returns : goal.returns
returns c = held
