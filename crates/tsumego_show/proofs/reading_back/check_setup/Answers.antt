use Rattle.std.proofs.Common.{rules}
use Rattle.tsumego_show.proofs.reading_back.check_setup.Goals as goal

pub returns-then-is_first_position : goal.returns-then-is_first_position
returns-then-is_first_position c =
    let there = rw c.in-Ok-Some.field-0-is at c.in-Ok-Some.ensures.read in
    λ _. (c.in-Ok-Some.found, there.1, search rules, search rules)
