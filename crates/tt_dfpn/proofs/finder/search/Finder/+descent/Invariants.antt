use Rattle.std.proofs.Common.{◌≤◌, ◌+◌, ◌*◌}
use Rattle.tt_dfpn.proofs.finder.search.Finder.+descent.Given as goal

-- a search, its rounds and its visits share a room, and a child has less of it
abbrev pub decreases-search : goal.decreases-search
decreases-search l = l.room * 3 + 2

abbrev pub decreases-search_best_children : goal.decreases-search_best_children
decreases-search_best_children l = l.room * 3 + 1

abbrev pub decreases-search_after_turn : goal.decreases-search_after_turn
decreases-search_after_turn l = l.room * 3

abbrev pub invariant-search_best_children-loop : goal.invariant-search_best_children-loop
invariant-search_best_children-loop l = l.visits.left ≤ l.fn.visits.left
