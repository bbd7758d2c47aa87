use Rattle.tt_game.proofs.TargetLemmas.{targets_are_the_defenders}
use Rattle.tt_game.proofs.laws.targets_are_the_defenders.Goals as goal

pub returns : goal.returns
returns c = targets_are_the_defenders
