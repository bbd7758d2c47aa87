use Rattle.std.proofs.Common.{rules}
use Rattle.tt_game.proofs.OpenProblems.{problem_open}
use Rattle.tt_game.proofs.SizedProblems.{problem_state}
use Rattle.tt_text.proofs.OnBoard.{said_of_nodes}
use Rattle.tt_text.proofs.solving.solve.Goals as goal

pub answer-requires-clause-open : goal.answer-requires-clause-open
answer-requires-clause-open g c = let there = problem_open c.args.main.now.nodes c.in-Ok.line c.in-Ok.ensures in search (rules, there)

pub answer-requires-clause-state : goal.answer-requires-clause-state
answer-requires-clause-state g c = let there = problem_state c.args.main.now.nodes c.in-Ok.line c.in-Ok.ensures in search (rules, there)

pub returns-in-Ok : goal.returns-in-Ok
returns-in-Ok g c = said_of_nodes c.args.options c.args.main.now.nodes c.in-Ok.line c.answer.result c.in-Ok.ensures c.answer.ensures
