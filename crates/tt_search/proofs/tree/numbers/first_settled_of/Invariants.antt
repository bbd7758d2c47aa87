use Rattle.std.proofs.Common.{◌≡◌, ◌≤◌, ◌+◌, length, take, drop}
use Rattle.tt_search.specs.Numbers.{child_numbers}
use Rattle.tt_search.specs.MostProving.{first_index_of}
use Rattle.tt_search.specs.Settled.{first_settled_index}
use Rattle.tt_search.specs.inside.Children.{children_of}
use Rattle.tt_search.specs.inside.Edges.{edge_trees, grown_in}
use Rattle.tt_search.proofs.tree.numbers.first_settled_of.Given as goal

abbrev pub invariant-loop-i : goal.invariant-loop-i
invariant-loop-i l = record {
  index : l.i + first_index_of 0 (child_numbers l.side (children_of (edge_trees (drop l.i l.edges) l.rest))) ≡ first_settled_index l.side (children_of (edge_trees l.edges l.grown));
  few : l.rank ≤ l.i;
  rank : l.rank ≡ grown_in (take l.i l.edges);
  whole : grown_in (drop l.i l.edges) ≡ length l.rest;
}
