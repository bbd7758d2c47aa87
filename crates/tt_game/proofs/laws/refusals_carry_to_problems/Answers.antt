use Rattle.tt_game.proofs.RecordLaws.{refusals_carry_to_problems}
use Rattle.tt_game.proofs.laws.refusals_carry_to_problems.Goals as goal

pub returns : goal.returns
returns c = refusals_carry_to_problems
