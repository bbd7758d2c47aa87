use Rattle.tt_game.proofs.ProblemRefusals.{first_problem_refusal_decides}
use Rattle.tt_game.proofs.laws.first_problem_refusal_decides.Goals as goal

pub returns : goal.returns
returns c = first_problem_refusal_decides
