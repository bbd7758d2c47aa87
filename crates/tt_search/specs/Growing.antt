-- How a partial tree grows: at its most-proving leaf, within limits.
use Rattle.std.specs.Prelude.{◌≡◌, ℕ, zero, suc, ◌+◌, ◌<◌, ◌≤◌, ◌⊎◌, List, [], ◌∷◌, Option, Some, None}
use Rattle.tt_game.specs.declared.frame.Side.{Side}
use Rattle.tt_game.specs.declared.turns.Turn.{Turn}
use Rattle.tt_game.specs.declared.frame.Frame.{Frame}
use Rattle.tt_game.specs.Game.{State, after, winner_of}
use Rattle.tt_game.specs.Turns.{legal_turns}
use Rattle.tt_proof.specs.Strategy.{Strategy, depth, IsInOrder}
use Rattle.tt_proof.specs.Wins.{Wins}
use Rattle.tt_search.specs.PartialTree.{PartialTree, fresh, won, closed, expanded, Children, no_more, more}
use Rattle.tt_search.specs.Numbers.{count, IsUndecided}
use Rattle.tt_search.specs.MostProving.{most_proving_state, most_proving_depth, with_most_proving}
use Rattle.tt_search.specs.declared.limits.Limits.{Limits}

-- a new leaf: won where somebody has won
abbrev pub leaf_with_winner : Option Side → PartialTree
leaf_with_winner None = fresh
leaf_with_winner (Some side) = won side

abbrev pub new_leaf : Frame → State → PartialTree
new_leaf f s = leaf_with_winner (winner_of f s)

abbrev pub new_leaves : Frame → State → List Turn → Children
new_leaves f s [] = no_more
new_leaves f s (t ∷ ts) = more (new_leaf f (after f s t)) (new_leaves f s ts)

-- a leaf once it is expanded: a new leaf for each legal turn
abbrev pub expansion : Frame → State → PartialTree
expansion f s = expanded s.to_move (legal_turns f s) (new_leaves f s (legal_turns f s))

-- each leaf is what its state says, and an expanded node has a child for each legal turn, in rising order
abbrev mutual
  pub IsPartialTree : Frame → State → PartialTree → Type 0
  IsPartialTree f s fresh = winner_of f s ≡ None
  IsPartialTree f s (won side) = winner_of f s ≡ Some side
  IsPartialTree f s (closed side strategy) = Wins side f strategy s
  IsPartialTree f s (expanded mover turns children) =
      (winner_of f s ≡ None) × (mover ≡ s.to_move) × (turns ≡ legal_turns f s) × ArePartialTrees f s turns children

  pub ArePartialTrees : Frame → State → List Turn → Children → Type 0
  ArePartialTrees f s [] no_more = Unit {0}
  ArePartialTrees f s [] (more tree children) = ⊥
  ArePartialTrees f s (t ∷ ts) no_more = ⊥
  ArePartialTrees f s (t ∷ ts) (more tree children) = IsPartialTree f (after f s t) tree × ArePartialTrees f s ts children

-- the new tree is the old one with its most-proving leaf expanded, which is less deep than the limit
abbrev pub IsExpansion : ℕ → Frame → State → PartialTree → PartialTree → Type 0
IsExpansion limit f s old new =
    (most_proving_depth old < limit) × (new ≡ with_most_proving (expansion f (most_proving_state f s old)) old)

-- the new tree is the old one with its most-proving leaf closed by a strategy that wins there, within the limit
abbrev pub IsClosing : ℕ → Frame → State → PartialTree → PartialTree → Type 0
IsClosing limit f s old new =
    (side : Side) × (strategy : Strategy) × Wins side f strategy (most_proving_state f s old) × IsInOrder f.size strategy × (most_proving_depth old + depth strategy ≤ limit)
    × (new ≡ with_most_proving (closed side strategy) old)

-- an undecided tree grows at its most-proving leaf: by an expansion below the budget, or by a closing
abbrev pub IsGrowthStep : Limits → Frame → State → PartialTree → PartialTree → Type 0
IsGrowthStep limits f s old new =
    IsUndecided old × ((count old < limits.budget × IsExpansion limits.depth f s old new) ⊎ IsClosing limits.depth f s old new)

-- a tree is reached from another one by so many growths
abbrev pub IsGrownInSteps : ℕ → Limits → Frame → State → PartialTree → PartialTree → Type 0
IsGrownInSteps zero limits f s from tree = tree ≡ from
IsGrownInSteps (suc n) limits f s from tree = (before : PartialTree) × IsGrownInSteps n limits f s from before × IsGrowthStep limits f s before tree

abbrev pub IsGrownFrom : Limits → Frame → State → PartialTree → PartialTree → Type 0
IsGrownFrom limits f s from tree = (n : ℕ) × IsGrownInSteps n limits f s from tree

-- a tree is reached from the one that is only the root
abbrev pub IsGrownFromRoot : Limits → Frame → State → PartialTree → Type 0
IsGrownFromRoot limits f s tree = IsGrownFrom limits f s (new_leaf f s) tree
