use Rattle.tt_game.proofs.FaultPlaces.{bad_values_are_there}
use Rattle.tt_game.proofs.laws.bad_values_are_there.Goals as goal

pub returns : goal.returns
returns c = bad_values_are_there
