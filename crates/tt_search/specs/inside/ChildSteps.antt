-- What steps at a child do to the children of a node. For private contracts and proofs.
use Rattle.std.specs.Prelude.{◌≡◌, ℕ, zero, suc, List, [], ◌∷◌, slice_set}
use Rattle.tt_search.specs.PartialTree.{PartialTree, fresh}
use Rattle.tt_search.specs.inside.Edges.{edge_state_of, edge_turns, edge_trees}
use Rattle.tt_search.specs.inside.Choices.{Choices, best_child, with_best}
use Rattle.tt_search.specs.inside.ChildNodes.{child_of}
use Rattle.tt_search.specs.inside.Walking.{Stand, stage, stand_of}
use Rattle.tt_search.specs.inside.Taken.{Taken, IsLeft}
use Rattle.tt_search.specs.inside.Steady.{AreStepsAt, AreSteps}
use Rattle.tt_search.specs.declared.tree.edges.Edge.{Edge}
use Rattle.tt_search.specs.declared.tree.edges.EdgeState.TheVariants as edge_state
use Rattle.tt_search.specs.declared.limits.Step.{Step}
use Rattle.tt_search.specs.declared.tree.children.ChildNodes.{ChildNodes}
use Rattle.tt_search.specs.declared.descent.StopAfter.{StopAfter}
use Rattle.tt_search.specs.declared.descent.Descent.{Descent}

-- the child at the index is there, and nothing is known of it
abbrev pub IsFreshAt : ℕ → List Edge → Type 0
IsFreshAt i [] = ⊥
IsFreshAt zero (e ∷ es) = edge_state_of e ≡ edge_state.Fresh
IsFreshAt (suc i) (e ∷ es) = IsFreshAt i es

-- the child at the index becomes this tree, and all else stays
pub record IsPut (index : ℕ) (old : ChildNodes) (tree : PartialTree) (new : ChildNodes) : Type 0 where
  pub turns : edge_turns new.edges ≡ edge_turns old.edges
  pub trees : edge_trees new.edges new.grown.items ≡ slice_set (edge_trees old.edges old.grown.items) index tree

-- the fresh child at the index takes its first step
abbrev pub FirstStepAt : Descent → ℕ → ChildNodes → Step → ChildNodes → Descent → Type 0
FirstStepAt walk index old step new after =
    (tree : PartialTree) × Taken (stand_of walk) (stage fresh walk.left) step tree × IsLeft step walk.left after.left × IsPut index old tree new

-- the child at the index takes steps, where the stand is the child's
abbrev pub StepsBelowAt : StopAfter → Stand → ℕ → ChildNodes → ℕ → Step → ChildNodes → ℕ → Type 0
StepsBelowAt stop at index old left step new left_after =
    (tree : PartialTree) × AreStepsAt stop at (stage (child_of old index) left) step (stage tree left_after) × IsPut index old tree new

-- the child at the index takes the steps of a walk that stands there
abbrev pub StepsBelow : StopAfter → Descent → ℕ → ChildNodes → Step → ChildNodes → Descent → Type 0
StepsBelow stop walk index old step new after = StepsBelowAt stop (stand_of walk) index old walk.left step new after.left

-- the best child takes the steps of a walk that stands there
abbrev pub BestSteps : StopAfter → Descent → Choices → Step → Choices → Descent → Type 0
BestSteps stop walk old step new after = (tree : PartialTree) × AreSteps stop walk (best_child old) step tree after × (new ≡ with_best old tree)
