use Rattle.std.proofs.Common.{rules}
use Rattle.tt_solve.proofs.ProofSolutions.{decided_within}
use Rattle.tt_solve.proofs.Totals.{leaves_all, leaving}
use Rattle.tt_solve.proofs.solving.Solver.solve_line.Goals as goal

pub returns-in-Some : goal.returns-in-Some
returns-in-Some g c =
    leaves_all c.args.line.now c.args.self.now.options.limits _ c.args.total
    (λ t. decided_within c.args.line.now c.args.self.now.options.limits t c.args.self.now.options.cert _ (search (rules, c.in-Some.is, c.try_dfpn-found.ensures.decided)))

pub returns : goal.returns
returns g c = leaving c.args.line.now c.args.self.now.options.limits _ _ c.args.total c.total_left.result c.in_ok-answer.granted
    c.in_ok-answer.ensures c.total_left.ensures (λ t. c.in_ok-solution.ensures t)

pub solution_of_answer-requires-clause-answer : goal.solution_of_answer-requires-clause-answer
solution_of_answer-requires-clause-answer g c = (c.args.total, c.in_ok-answer.ensures.within)
