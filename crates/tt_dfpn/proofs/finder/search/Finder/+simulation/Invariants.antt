use Rattle.std.proofs.Common.{◌≤◌, ◌+◌, ◌*◌, cond}
use Rattle.tt_dfpn.proofs.finder.search.Finder.+simulation.Given as goal

-- a reply takes one of the visits that are left, and then the loser's turns share the rest
abbrev pub decreases-is_as_twin_behind : goal.decreases-is_as_twin_behind
decreases-is_as_twin_behind l = l.visits.now.left * 7 + cond l.wins 2 6

abbrev pub decreases-is_as_twin : goal.decreases-is_as_twin
decreases-is_as_twin l = l.visits.now.left * 7 + cond l.wins 1 5

abbrev pub decreases-loses_as_twin : goal.decreases-loses_as_twin
decreases-loses_as_twin l = l.visits.now.left * 7 + 4

abbrev pub decreases-are_all_refuted : goal.decreases-are_all_refuted
decreases-are_all_refuted l = l.visits.now.left * 7 + 3

abbrev pub decreases-wins_as_twin : goal.decreases-wins_as_twin
decreases-wins_as_twin l = l.visits.now.left * 7

abbrev pub invariant-are_all_refuted-loop-k : goal.invariant-are_all_refuted-loop-k
invariant-are_all_refuted-loop-k l = l.visits.left ≤ l.fn.visits.left

abbrev pub invariant-are_all_refuted-loop-child : goal.invariant-are_all_refuted-loop-child
invariant-are_all_refuted-loop-child l = l.visits.left ≤ l.fn.visits.left
