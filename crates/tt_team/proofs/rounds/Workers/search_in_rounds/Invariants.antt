use Rattle.std.proofs.Common.{◌≤◌}
use Rattle.tt_team.proofs.rounds.Workers.search_in_rounds.Given as goal

abbrev pub invariant-loop : goal.invariant-loop
invariant-loop g l = l.visits.left ≤ l.fn.visits.left
