-- The children of an expanded node as the code keeps them: a short word for each, and the trees of those that have grown.
use Rattle.std.specs.Prelude.{◌≡◌, ℕ, suc, ◌/◌, ◌%◌, ◌==◌, if◌then◌else◌, List, [], ◌∷◌, map, slice_index_or, ltb}
use Rattle.tt_sgf.specs.declared.size.TheConstants.{MOST_POINTS}
use Rattle.tt_game.specs.declared.frame.Side.TheVariants.{Attacker, Defender}
use Rattle.tt_game.specs.declared.turns.Turn.{Turn}
use Rattle.tt_game.specs.declared.turns.Turn.TheVariants.{Play, Pass}
use Rattle.tt_search.specs.PartialTree.{PartialTree, fresh, won}
use Rattle.tt_search.specs.declared.tree.edges.EdgeState.{EdgeState}
use Rattle.tt_search.specs.declared.tree.edges.EdgeState.TheVariants.{Fresh, Won, Grown}
use Rattle.tt_search.specs.declared.tree.edges.Edge.{Edge}
use Rattle.tt_search.specs.declared.tree.edges.TheConstants.{TURN_NUMBER_BOUND}

-- the turn of a number: a play on that point, or else a pass
abbrev pub turn_at : ℕ → Turn
turn_at n = if ltb n MOST_POINTS then Play n else Pass

abbrev pub edge_state_at : ℕ → EdgeState
edge_state_at n = if n == 0 then Fresh else (if n == 1 then Won Attacker else (if n == 2 then Won Defender else Grown))

abbrev pub edge_turn : Edge → Turn
edge_turn e = turn_at (e.code % TURN_NUMBER_BOUND)

abbrev pub edge_state_of : Edge → EdgeState
edge_state_of e = edge_state_at (e.code / TURN_NUMBER_BOUND)

abbrev pub edge_turns : List Edge → List Turn
edge_turns es = map edge_turn es

-- the tree of a child, where these are the trees of the children that have grown, from this one on
abbrev pub tree_of : EdgeState → List PartialTree → PartialTree
tree_of Fresh grown = fresh
tree_of (Won side) grown = won side
tree_of Grown [] = fresh
tree_of Grown (tree ∷ trees) = tree

-- the trees of the children that have grown behind it
abbrev pub grown_behind : EdgeState → List PartialTree → List PartialTree
grown_behind Fresh grown = grown
grown_behind (Won side) grown = grown
grown_behind Grown [] = []
grown_behind Grown (tree ∷ trees) = trees

abbrev pub edge_trees : List Edge → List PartialTree → List PartialTree
edge_trees [] grown = []
edge_trees (e ∷ es) grown = tree_of (edge_state_of e) grown ∷ edge_trees es (grown_behind (edge_state_of e) grown)

-- one more where the child has grown
abbrev pub counted : EdgeState → ℕ → ℕ
counted Fresh n = n
counted (Won side) n = n
counted Grown n = suc n

-- how many children have grown
abbrev pub grown_in : List Edge → ℕ
grown_in [] = 0
grown_in (e ∷ es) = counted (edge_state_of e) (grown_in es)

-- the tree of the child at a index
abbrev pub child_at : ℕ → List Edge → List PartialTree → PartialTree
child_at i es grown = slice_index_or (edge_trees es grown) i fresh

-- nothing is known of any of the children
abbrev pub AreFresh : List Edge → Type 0
AreFresh [] = Unit {0}
AreFresh (e ∷ es) = (edge_state_of e ≡ Fresh) × AreFresh es
