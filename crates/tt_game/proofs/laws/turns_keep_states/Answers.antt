use Rattle.tt_game.proofs.SomeSide.{state_after}
use Rattle.tt_game.proofs.laws.turns_keep_states.Goals as goal

pub returns : goal.returns
returns c = state_after
