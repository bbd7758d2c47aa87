use Rattle.std.proofs.Common.{◌≡◌, ◌<◌, ◌≤◌, length, min, take, drop}
use Rattle.tt_search.specs.Numbers.{child_numbers, infinite, least}
use Rattle.tt_search.specs.MostProving.{index_of_best}
use Rattle.tt_search.specs.inside.Children.{children_of}
use Rattle.tt_search.specs.inside.Edges.{edge_trees, grown_in}
use Rattle.tt_search.proofs.Rows.{best_from}
use Rattle.tt_search.proofs.tree.numbers.best_of.Given as goal

abbrev pub invariant-loop-i : goal.invariant-loop-i
invariant-loop-i l = record {
  most : l.least ≤ infinite;
  higher : l.from < l.least;
  index : best_from l.index l.least l.i (child_numbers l.mover (children_of (edge_trees (drop l.i l.edges) l.rest))) ≡ index_of_best l.mover (children_of (edge_trees l.edges l.grown));
  least : min l.least (least (child_numbers l.mover (children_of (edge_trees (drop l.i l.edges) l.rest)))) ≡ least (child_numbers l.mover (children_of (edge_trees l.edges l.grown)));
  looked_at : l.index ≤ l.i;
  few : l.passed ≤ l.i;
  fewer : l.rank ≤ l.i;
  passed : l.passed ≡ grown_in (take l.i l.edges);
  rank : l.rank ≡ grown_in (take l.index l.edges);
  whole : grown_in (drop l.i l.edges) ≡ length l.rest;
}
