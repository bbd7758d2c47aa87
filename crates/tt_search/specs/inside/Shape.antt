-- The partial tree that a node holds. For private contracts and proofs.
use Rattle.std.specs.Prelude.{[]}
use Rattle.tt_search.specs.PartialTree.{PartialTree, fresh, won, closed}
use Rattle.tt_search.specs.inside.Untried.{plays_and_pass}
use Rattle.tt_search.specs.inside.Choices.{node_with}
use Rattle.tt_search.specs.inside.ChildNodes.{choices_of, choices_with}
use Rattle.tt_search.specs.declared.tree.node.NodeState.{NodeState}
use Rattle.tt_search.specs.declared.tree.node.NodeState.TheVariants.{Fresh, Won, Closed, Untried, Expanded, Offered}

abbrev pub shape : NodeState → PartialTree
shape Fresh = fresh
shape (Won side) = won side
shape (Closed proof) = closed proof.value.side proof.value.tree
shape (Untried mover plays) = node_with (choices_with mover (plays_and_pass plays) [])
shape (Expanded focus children) = node_with (choices_of focus.mover children)
shape (Offered mover children proof) = node_with (choices_of mover children)
