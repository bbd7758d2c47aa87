use Rattle.tt_game.proofs.SizedProblems.{problem_state}
use Rattle.tt_game.proofs.laws.problems_are_states.Goals as goal

pub returns : goal.returns
returns c = problem_state
