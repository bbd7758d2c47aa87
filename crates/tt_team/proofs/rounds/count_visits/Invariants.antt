use Rattle.std.proofs.Common.{◌≡◌, ◌-◌, sum_by, vec_len}
use Rattle.tt_team.proofs.rounds.count_visits.Given as goal

abbrev pub invariant-loop-one : goal.invariant-loop-one
invariant-loop-one g l = l.visits.left - sum_by (λ f. f.visited) l.findings.items ≡ l.fn.visits.left - sum_by (λ f. f.visited) l.fn.findings.items

abbrev pub decreases-loop-one : goal.decreases-loop-one
decreases-loop-one g l = vec_len l.findings
