use Rattle.std.proofs.Common.{◌≡◌, ◌+◌, ◌*◌}
use Rattle.tt_search.specs.inside.Walking.{stage, stand_of}
use Rattle.tt_search.proofs.Steady.{IsUnderWay, to_do}
use Rattle.tt_search.proofs.Asking.{IsGranted}
use Rattle.tt_search.proofs.tree.+descent.Given as goal

-- each descent below a node has less room, and a node's rounds have its own
abbrev pub decreases-node::Node::grow : goal.decreases-node::Node::grow
decreases-node::Node::grow g l = l.walk.now.room * 8 + 3

abbrev pub decreases-node::Node::grow_once : goal.decreases-node::Node::grow_once
decreases-node::Node::grow_once g l = l.walk.now.room * 8 + 2

abbrev pub decreases-node::Node::grow_untried : goal.decreases-node::Node::grow_untried
decreases-node::Node::grow_untried g l = l.walk.now.room * 8 + 1

abbrev pub decreases-children::ChildNodes::descend : goal.decreases-children::ChildNodes::descend
decreases-children::ChildNodes::descend g l = l.walk.now.room * 8

abbrev pub decreases-children::ChildNodes::grow_at : goal.decreases-children::ChildNodes::grow_at
decreases-children::ChildNodes::grow_at g l = l.walk.now.room * 8 + 4

abbrev pub decreases-children::ChildNodes::grow_best : goal.decreases-children::ChildNodes::grow_best
decreases-children::ChildNodes::grow_best g l = l.walk.now.room * 8 + 5

abbrev pub invariant-node::Node::grow-rounds : goal.invariant-node::Node::grow-rounds
invariant-node::Node::grow-rounds g l = record {
  line : l.walk.line ≡ l.fn.walk.line;
  room : l.walk.room ≡ l.fn.walk.room;
  granted : (g.G.Grants.asked l.grants).granted + l.walk.left ≡ (g.G.Grants.asked l.fn.grants).granted + l.fn.walk.left;
  source : g.G.Grants.source l.grants ≡ g.G.Grants.source l.fn.grants;
  far : IsGranted l.stop (g.G.Grants.asked l.fn.grants) (g.G.Grants.asked l.grants);
  under_way : IsUnderWay l.stop (stand_of l.fn.walk) (stage l.fn.self l.fn.walk.left) (stage l.self l.walk.left);
}

abbrev pub decreases-node::Node::grow-rounds : goal.decreases-node::Node::grow-rounds
decreases-node::Node::grow-rounds g l = to_do (stage l.self l.walk.left)
