-- Each child is smaller than its node.
use Rattle.std.specs.Prelude.{◌≡◌, ◌+◌, ◌≤◌, max, length, List, [], ◌∷◌}
use Rattle.std.proofs.Common.{arith}
use denote.Param.Weighed.{most}
use Rattle.tt_search.specs.PartialTree.{PartialTree}
use Rattle.tt_search.specs.inside.Weight.{weight, weight_all}
use Rattle.tt_search.specs.inside.Children.{children_of}
use Rattle.tt_search.specs.inside.Edges.{tree_of, grown_behind, edge_trees, edge_state_of, counted, grown_in}
use Rattle.tt_search.specs.inside.ChildNodes.{children_in, HasItsNodes}
use Rattle.tt_search.specs.inside.Offered.{HoldsItsOwn}
use Rattle.tt_search.specs.inside.Shape.{shape}
use Rattle.tt_search.specs.declared.tree.edges.Edge.{Edge}
use Rattle.tt_search.specs.declared.tree.edges.EdgeState.{EdgeState}
use Rattle.tt_search.specs.declared.tree.edges.EdgeState.TheVariants as edge_state
use Rattle.tt_search.specs.declared.tree.node.NodeState.{NodeState}
use Rattle.tt_search.specs.declared.tree.node.NodeState.TheVariants.{Fresh, Won, Closed, Untried, Expanded, Offered}
use Rattle.tt_search.specs.declared.tree.children.ChildNodes.{ChildNodes}
use Rattle.tt_search.specs.declared.tree.node.Node.TheDeep.{deep-NodeState, deep-ChildNodes}

-- the grown nodes weigh no more than all children, if that holds for the list without its first edge
most-behind : (m : EdgeState) (es : List Edge) (ts : List PartialTree)
    → ((us : List PartialTree) → grown_in es ≡ length us → most (λ t. weight t + 1) us ≤ weight_all (children_of (edge_trees es us))) → counted m (grown_in es) ≡ length ts
    → most (λ t. weight t + 1) ts ≤ weight_all (children_of (tree_of m ts ∷ edge_trees es (grown_behind m ts)))
most-behind edge_state.Fresh es ts below h = omega (arith, below ts (omega (arith, h)))
most-behind (edge_state.Won side) es ts below h = omega (arith, below ts (omega (arith, h)))
most-behind edge_state.Grown es [] below h = absurd (omega (arith, h))
most-behind edge_state.Grown es (t ∷ ts) below h = omega (arith, below ts (omega (arith, h)))

-- the nodes of the children that have grown weigh no more than all children
most-weight : (es : List Edge) (ts : List PartialTree) → grown_in es ≡ length ts → most (λ t. weight t + 1) ts ≤ weight_all (children_of (edge_trees es ts))
most-weight [] [] h = omega arith
most-weight [] (t ∷ ts) h = absurd (omega (arith, h))
most-weight (e ∷ es) ts h = most-behind (edge_state_of e) es ts (most-weight es) h

-- each node that children hold weighs less than all of them
children-fall : (p : ChildNodes) → HasItsNodes p → deep-ChildNodes p ≤ weight_all (children_in p)
children-fall p h = omega (arith, most-weight p.edges p.grown.items h)

-- the children that a growth holds weigh less than its tree
pub deep-weight : (g : NodeState) → HoldsItsOwn g → max (deep-NodeState g) 0 ≤ weight (shape g)
deep-weight Fresh h = omega arith
deep-weight (Won s) h = omega arith
deep-weight (Closed p) h = omega arith
deep-weight (Untried mover plays) h = omega arith
deep-weight (Expanded focus children) h = omega (arith, children-fall children h.whole)
deep-weight (Offered mover children p) h = omega (arith, children-fall children h.whole)
