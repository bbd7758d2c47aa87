-- The most-proving leaf (Allis 1994, section 2.4): from the root of an undecided tree down to a leaf, each time to the
-- first child with the least number of the side to move.
use Rattle.std.specs.Prelude.{ℕ, zero, suc, ◌+◌, List, [], ◌∷◌, ◌==◌, if◌then◌else◌}
use Rattle.tt_game.specs.declared.frame.Side.{Side}
use Rattle.tt_game.specs.declared.turns.Turn.{Turn}
use Rattle.tt_game.specs.declared.frame.Frame.{Frame}
use Rattle.tt_game.specs.Game.{State, after}
use Rattle.tt_search.specs.PartialTree.{PartialTree, fresh, won, closed, expanded, Children, no_more, more}
use Rattle.tt_search.specs.Numbers.{child_numbers, least}

-- the index of the first number that is this one
abbrev pub first_index_of : ℕ → List ℕ → ℕ
first_index_of v [] = 0
first_index_of v (x ∷ xs) = if x == v then 0 else first_index_of v xs + 1

-- the index of the first least number
abbrev pub first_least_index : List ℕ → ℕ
first_least_index xs = first_index_of (least xs) xs

-- the index of the child to go to: the first one with the least number of the side to move
abbrev pub index_of_best : Side → Children → ℕ
index_of_best mover children = first_least_index (child_numbers mover children)

-- the state at the most-proving leaf of a tree at the state s
abbrev mutual
  pub most_proving_state : Frame → State → PartialTree → State
  most_proving_state f s fresh = s
  most_proving_state f s (won side) = s
  most_proving_state f s (closed side strategy) = s
  most_proving_state f s (expanded mover turns children) = state_below f s turns (index_of_best mover children) children

  pub state_below : Frame → State → List Turn → ℕ → Children → State
  state_below f s [] i children = s
  state_below f s (t ∷ ts) i no_more = s
  state_below f s (t ∷ ts) zero (more tree children) = most_proving_state f (after f s t) tree
  state_below f s (t ∷ ts) (suc i) (more tree children) = state_below f s ts i children

-- how many turns deep the most-proving leaf is
abbrev mutual
  pub most_proving_depth : PartialTree → ℕ
  most_proving_depth fresh = 0
  most_proving_depth (won side) = 0
  most_proving_depth (closed side strategy) = 0
  most_proving_depth (expanded mover turns children) = depth_below (index_of_best mover children) children + 1

  pub depth_below : ℕ → Children → ℕ
  depth_below i no_more = 0
  depth_below zero (more tree children) = most_proving_depth tree
  depth_below (suc i) (more tree children) = depth_below i children

-- the tree with another one instead of its most-proving leaf
abbrev mutual
  pub with_most_proving : PartialTree → PartialTree → PartialTree
  with_most_proving leaf fresh = leaf
  with_most_proving leaf (won side) = leaf
  with_most_proving leaf (closed side strategy) = leaf
  with_most_proving leaf (expanded mover turns children) = expanded mover turns (with_leaf_below leaf (index_of_best mover children) children)

  pub with_leaf_below : PartialTree → ℕ → Children → Children
  with_leaf_below leaf i no_more = no_more
  with_leaf_below leaf zero (more tree children) = more (with_most_proving leaf tree) children
  with_leaf_below leaf (suc i) (more tree children) = more tree (with_leaf_below leaf i children)
