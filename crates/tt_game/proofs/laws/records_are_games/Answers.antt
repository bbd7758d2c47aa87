use Rattle.tt_game.proofs.RecordLaws.{records_are_games}
use Rattle.tt_game.proofs.laws.records_are_games.Goals as goal

pub returns : goal.returns
returns c = records_are_games
