use Rattle.tt_game.proofs.RecordLaws.{unmarked_are_no_problems}
use Rattle.tt_game.proofs.laws.unmarked_are_no_problems.Goals as goal

pub returns : goal.returns
returns c = unmarked_are_no_problems
