use Rattle.tt_game.proofs.OpenProblems.{problem_open}
use Rattle.tt_game.proofs.laws.problems_have_no_winner.Goals as goal

pub returns : goal.returns
returns c = problem_open
