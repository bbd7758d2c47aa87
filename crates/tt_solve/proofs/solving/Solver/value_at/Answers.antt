use Rattle.std.proofs.Common.{rules}
use Rattle.tt_solve.proofs.Totals.{leaves_all}
use Rattle.tt_solve.proofs.ProofSolutions.{winner_value}
use Rattle.tt_solve.proofs.solving.Solver.value_at.Goals as goal

pub returns-in-Some : goal.returns-in-Some
returns-in-Some g c = leaves_all c.args.line.now c.args.self.now.options.limits _ c.args.total
    (λ t. winner_value c.args.line.now c.requires c.in-Some.side (search (rules, c.in-Some.is, c.in-Some.ensures)))

pub returns-in-Err : goal.returns-in-Err
returns-in-Err g c = leaves_all c.args.line.now c.args.self.now.options.limits _ c.args.total (λ t. tt)
