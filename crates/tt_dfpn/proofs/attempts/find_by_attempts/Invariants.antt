use Rattle.std.proofs.Common.{◌≡◌, ◌≤◌}
use Rattle.tt_dfpn.proofs.attempts.find_by_attempts.Given as goal

abbrev pub invariant-loop-attempt : goal.invariant-loop-attempt
invariant-loop-attempt g l = record {
  same : l.line ≡ l.fn.line;
  fewer : l.certifier.visits.left ≤ l.fn.certifier.visits.left;
}
