use Rattle.tt_game.proofs.RecordLaws.{problems_are_games}
use Rattle.tt_game.proofs.laws.problems_are_games.Goals as goal

pub returns : goal.returns
returns c = problems_are_games
