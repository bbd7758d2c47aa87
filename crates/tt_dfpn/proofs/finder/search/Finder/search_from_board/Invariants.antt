use Rattle.std.proofs.Common.{◌≤◌}
use Rattle.tt_dfpn.proofs.finder.search.Finder.search_from_board.Given as goal

abbrev pub invariant-loop : goal.invariant-loop
invariant-loop l = l.visits.left ≤ l.fn.visits.left
