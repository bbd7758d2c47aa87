use Rattle.tt_game.proofs.OpenProblems.{problem_open}
use Rattle.tt_game.proofs.SizedProblems.{problem_state}
use Rattle.library.proofs.problem_line.Goals as goal

pub returns-in-Ok-clause-open : goal.returns-in-Ok-clause-open
returns-in-Ok-clause-open c = problem_open c.args.main.now.nodes c.in-Ok.line c.in-Ok.ensures

pub returns-in-Ok-clause-state : goal.returns-in-Ok-clause-state
returns-in-Ok-clause-state c = problem_state c.args.main.now.nodes c.in-Ok.line c.in-Ok.ensures
