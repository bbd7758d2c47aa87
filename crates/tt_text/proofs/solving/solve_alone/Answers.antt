use Rattle.tt_game.proofs.OpenProblems.{problem_open}
use Rattle.tt_game.proofs.SizedProblems.{problem_state}
use Rattle.tt_text.proofs.OnBoard.{said_of_nodes}
use Rattle.tt_text.proofs.solving.solve_alone.Goals as goal

pub answer_alone-requires-clause-open : goal.answer_alone-requires-clause-open
answer_alone-requires-clause-open c = problem_open c.args.main.now.nodes c.in-Ok.line c.in-Ok.ensures

pub answer_alone-requires-clause-state : goal.answer_alone-requires-clause-state
answer_alone-requires-clause-state c = problem_state c.args.main.now.nodes c.in-Ok.line c.in-Ok.ensures

pub returns-in-Ok : goal.returns-in-Ok
returns-in-Ok c = said_of_nodes c.args.options c.args.main.now.nodes c.in-Ok.line c.answer_alone.result c.in-Ok.ensures c.answer_alone.ensures
