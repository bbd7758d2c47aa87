use Rattle.std.proofs.Common.{◌≡◌, ◌≤◌, ◌*◌, ◌+◌, drop}
use Rattle.tt_search.specs.inside.Children.{children_of}
use Rattle.tt_search.specs.inside.Edges.{edge_trees}
use Rattle.tt_search.specs.inside.ChildNodes.{children_in}
use Rattle.tt_search.specs.inside.Child.{child_tree}
use Rattle.tt_search.specs.inside.Joining.{AreSettledAt}
use Rattle.tt_search.specs.inside.Weight.{weight, weight_all}
use Rattle.tt_search.proofs.Joins.{replies_to, IsJoinedUpTo}
use Rattle.tt_search.proofs.+footprint.Given as goal

abbrev pub decreases-tree::node::Node::footprint : goal.decreases-tree::node::Node::footprint
decreases-tree::node::Node::footprint l = weight l.self.now * 4 + 2

abbrev pub decreases-tree::node::Node::board_and_footprint_after : goal.decreases-tree::node::Node::board_and_footprint_after
decreases-tree::node::Node::board_and_footprint_after l = weight l.self.now * 4 + 3

abbrev pub decreases-tree::children::Child::board_and_footprint_after : goal.decreases-tree::children::Child::board_and_footprint_after
decreases-tree::children::Child::board_and_footprint_after l = weight (child_tree l.self) * 4 + 4

abbrev pub decreases-tree::children::ChildNodes::footprint : goal.decreases-tree::children::ChildNodes::footprint
decreases-tree::children::ChildNodes::footprint l = weight_all (children_in l.self.now) * 4 + 5

abbrev pub decreases-footprints::pick_footprint : goal.decreases-footprints::pick_footprint
decreases-footprints::pick_footprint l = weight_all (children_of (edge_trees l.children.now.edges l.children.now.grown.items)) * 4 + 4

abbrev pub decreases-footprints::reply_footprint : goal.decreases-footprints::reply_footprint
decreases-footprints::reply_footprint l = weight_all (children_of (edge_trees l.edges.now l.grown.now)) * 4 + 4

-- what is joined is the footprint of a reply with the first entries, and all others are left
abbrev pub invariant-footprints::reply_footprint-loop-edge : goal.invariant-footprints::reply_footprint-loop-edge
invariant-footprints::reply_footprint-loop-edge l = record {
  same : l.line ≡ l.fn.line;
  settled : AreSettledAt l.side l.fn.line.frame l.fn.line.state (drop l.edge-index l.edges) l.rest;
  joined : IsJoinedUpTo l.side l.fn.line.frame l.fn.line.state (replies_to l.side l.fn.line.frame l.fn.line.state l.edges l.grown) (drop l.edge-index l.edges) l.rest l.footprint;
  lighter : weight_all (children_of (edge_trees (drop l.edge-index l.edges) l.rest)) ≤ weight_all (children_of (edge_trees l.edges l.grown));
}
