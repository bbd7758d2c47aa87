-- The children of an expanded node as the code keeps them. For private contracts and proofs.
use Rattle.std.specs.Prelude.{◌≡◌, ℕ, ◌≤◌, List, length, take}
use Rattle.tt_game.specs.declared.frame.Side.{Side}
use Rattle.tt_search.specs.PartialTree.{PartialTree, Children}
use Rattle.tt_search.specs.inside.Children.{children_of}
use Rattle.tt_search.specs.inside.Choices.{Choices}
use Rattle.tt_search.specs.inside.Edges.{edge_turns, edge_trees, grown_in, child_at}
use Rattle.tt_search.specs.declared.tree.edges.TheConstants.{TURN_NUMBER_BOUND}
use Rattle.tt_search.specs.declared.tree.edges.Edge.{Edge}
use Rattle.tt_search.specs.declared.tree.children.ChildNodes.{ChildNodes}

-- what children with these edges and nodes offer to the side to move
abbrev pub choices_with : Side → List Edge → List PartialTree → Choices
choices_with mover es grown = record { mover = mover; turns = edge_turns es; trees = edge_trees es grown }

-- what they offer to the side to move
abbrev pub choices_of : Side → ChildNodes → Choices
choices_of mover p = choices_with mover p.edges p.grown.items

-- the children themselves
abbrev pub children_in : ChildNodes → Children
children_in p = children_of (edge_trees p.edges p.grown.items)

-- each child that has grown has its node
abbrev pub HasItsNodes : ChildNodes → Type 0
HasItsNodes p = grown_in p.edges ≡ length p.grown.items

-- the tree of the child at a index
abbrev pub child_of : ChildNodes → ℕ → PartialTree
child_of p index = child_at index p.edges p.grown.items

-- so many children have grown before the index
abbrev pub IsRank : ℕ → ℕ → ChildNodes → Type 0
IsRank rank index p = rank ≡ grown_in (take index p.edges)

-- there are no more than a index can tell apart
abbrev pub AreFew : ChildNodes → Type 0
AreFew p = length p.edges ≤ TURN_NUMBER_BOUND
