use Rattle.std.proofs.Common.{rules}
use Rattle.tsumego_c.specs.Refusals.{refused, taken, unknown}
use Rattle.tsumego_c.proofs.first_refusal.explain.Goals as goal

pub returns-then-found-eq0 : goal.returns-then-found-eq0
returns-then-found-eq0 c = taken c.in-Ok.ensures (search rules)

pub returns-else-found-eq0 : goal.returns-else-found-eq0
returns-else-found-eq0 c = refused c.in-Ok.ensures (search rules)

pub returns-in-Err : goal.returns-in-Err
returns-in-Err c = unknown c.refusal_of_input.ensures
