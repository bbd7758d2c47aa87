use Rattle.std.proofs.Common.{◌≤◌}
use Rattle.tt_dfpn.proofs.finder.search.Finder.refute_alike.Given as goal

abbrev pub invariant-loop-k : goal.invariant-loop-k
invariant-loop-k l = l.visits.left ≤ l.fn.visits.left
