use Rattle.std.proofs.Common.{◌≡◌, ◌≤◌, ◌*◌, ◌+◌, length, drop}
use Rattle.tt_search.specs.inside.Children.{children_of}
use Rattle.tt_search.specs.inside.Edges.{edge_turns, edge_trees, grown_in}
use Rattle.tt_search.specs.inside.ChildNodes.{children_in}
use Rattle.tt_search.specs.inside.Child.{child_tree}
use Rattle.tt_search.specs.Settled.{replies}
use Rattle.tt_search.specs.inside.Joining.{AreZero}
use Rattle.tt_search.specs.inside.Weight.{weight, weight_all}
use Rattle.tt_search.proofs.Replies.{joined}
use Rattle.tt_search.proofs.+measured_tree_of.Given as goal

abbrev pub decreases-tree::node::Node::measured_tree : goal.decreases-tree::node::Node::measured_tree
decreases-tree::node::Node::measured_tree l = weight l.self.now * 3 + 2

abbrev pub decreases-tree::children::Child::measured_tree : goal.decreases-tree::children::Child::measured_tree
decreases-tree::children::Child::measured_tree l = weight (child_tree l.self) * 3 + 3

abbrev pub decreases-tree::children::ChildNodes::measured_tree : goal.decreases-tree::children::ChildNodes::measured_tree
decreases-tree::children::ChildNodes::measured_tree l = weight_all (children_in l.self.now) * 3 + 3

abbrev pub decreases-settled::pick_tree : goal.decreases-settled::pick_tree
decreases-settled::pick_tree l = weight_all (children_of (edge_trees l.children.now.edges l.children.now.grown.items)) * 3 + 1

abbrev pub decreases-settled::reply_tree : goal.decreases-settled::reply_tree
decreases-settled::reply_tree l = weight_all (children_of (edge_trees l.edges.now l.grown.now)) * 3 + 1

abbrev pub invariant-settled::reply_tree-loop-edge : goal.invariant-settled::reply_tree-loop-edge
invariant-settled::reply_tree-loop-edge l = record {
  made : joined l.answers (replies l.side (edge_turns (drop l.edge-index l.edges)) (children_of (edge_trees (drop l.edge-index l.edges) l.rest))) ≡ replies l.side (edge_turns l.edges)
      (children_of (edge_trees l.edges l.grown));
  whole : grown_in (drop l.edge-index l.edges) ≡ length l.rest;
  settled : AreZero l.side (children_of (edge_trees (drop l.edge-index l.edges) l.rest));
  lighter : weight_all (children_of (edge_trees (drop l.edge-index l.edges) l.rest)) ≤ weight_all (children_of (edge_trees l.edges l.grown));
}
