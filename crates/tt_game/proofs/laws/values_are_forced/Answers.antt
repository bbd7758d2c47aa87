use Rattle.tt_game.proofs.SomeSide.{values_forced}
use Rattle.tt_game.proofs.laws.values_are_forced.Goals as goal

pub returns : goal.returns
returns c = values_forced
