use Rattle.std.proofs.Common.{rules}
use Rattle.tt_solve.proofs.certificate_kinds.life_solution.Goals as goal

pub returns-then-eq-clause-decided : goal.returns-then-eq-clause-decided
returns-then-eq-clause-decided c =
    let decides = c.bare_solution.ensures.decided c.args.line.now c.args.options.limits c.requires.open c.requires.state (search (rules, c.in-Some.is, c.requires.stands)) in
    search (rules, decides, c.if-eq.true)

pub returns-then-eq-clause-within : goal.returns-then-eq-clause-within
returns-then-eq-clause-within c = c.bare_solution.ensures.within c.args.most_bytes
