use Rattle.tt_game.proofs.SomeSide.{some_side}
use Rattle.tt_game.proofs.laws.l4.Goals as goal

pub returns : goal.returns
returns c = some_side
