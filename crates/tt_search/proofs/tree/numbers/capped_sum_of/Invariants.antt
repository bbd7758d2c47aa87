use Rattle.std.proofs.Common.{◌≡◌, ◌≤◌, length, drop}
use Rattle.tt_search.specs.Numbers.{child_numbers, cap, capped_sum}
use Rattle.tt_search.specs.inside.Children.{children_of}
use Rattle.tt_search.specs.inside.Edges.{edge_trees, grown_in}
use Rattle.tt_search.proofs.Rows.{sum_from}
use Rattle.tt_search.proofs.tree.numbers.capped_sum_of.Given as goal

abbrev pub invariant-loop-edge : goal.invariant-loop-edge
invariant-loop-edge l = record {
  capped : l.total ≤ cap;
  sum : sum_from l.total (child_numbers l.goal (children_of (edge_trees (drop l.edge-index l.edges) l.rest))) ≡ capped_sum (child_numbers l.goal (children_of (edge_trees l.edges l.grown)));
  whole : grown_in (drop l.edge-index l.edges) ≡ length l.rest;
}
