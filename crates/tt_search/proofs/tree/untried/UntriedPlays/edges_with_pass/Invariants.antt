use Rattle.std.proofs.Common.{◌≡◌, ◌≤◌, ◌-◌, length}
use Rattle.tt_sgf.specs.MachineWords.{bit_in}
use Rattle.tt_sgf.specs.declared.size.TheConstants.{MOST_POINTS}
use Rattle.tt_search.specs.inside.Untried.{plays_in}
use Rattle.tt_search.proofs.tree.untried.UntriedPlays.edges_with_pass.Given as goal

abbrev pub invariant-loop-p : goal.invariant-loop-p
invariant-loop-p l = record {
  made : l.edges.items ≡ plays_in (bit_in l.self-inside.points.words) l.from;
  few : length l.edges.items ≤ l.from;
  inside : l.from ≤ MOST_POINTS;
}

abbrev pub decreases-loop-p : goal.decreases-loop-p
decreases-loop-p l = MOST_POINTS - l.from
