-- What contracts see of a search, and what a step of it does.
use Rattle.std.specs.Prelude.{◌≡◌, ◌<◌}
use Rattle.tt_game.specs.Line.{LineWithUndo}
use Rattle.tt_search.specs.PartialTree.{PartialTree}
use Rattle.tt_search.specs.Numbers.{count, IsUndecided}
use Rattle.tt_search.specs.MostProving.{most_proving_depth}
use Rattle.tt_search.specs.Growing.{IsExpansion, IsClosing}
use Rattle.tt_search.specs.declared.limits.Limits.{Limits}
use Rattle.tt_search.specs.declared.limits.Step.{Step}
use Rattle.tt_search.specs.declared.limits.Step.TheVariants.{Expanded, Closed, Settled, Stuck}
use Rattle.tt_search.specs.declared.limits.Reason.{Reason}
use Rattle.tt_search.specs.declared.limits.Reason.TheVariants.{Budget, Depth, Total, Memory}

-- the line of a search, its limits and its tree
pub record SearchState : Type 0 where
  pub line : LineWithUndo
  pub limits : Limits
  pub tree : PartialTree

-- a search is on the same line under the same limits
pub record HasSameLineAndLimits (old new : SearchState) : Type 0 where
  pub line : new.line ≡ old.line
  pub limits : new.limits ≡ old.limits

-- a step of the search is stuck for the reason
abbrev pub IsStuckFor : Reason → SearchState → Type 0
IsStuckFor Budget search = IsUndecided search.tree × (count search.tree ≡ search.limits.budget)
IsStuckFor Depth search =
    IsUndecided search.tree × (count search.tree < search.limits.budget) × (most_proving_depth search.tree ≡ search.limits.depth)
IsStuckFor Total search =
    IsUndecided search.tree × (count search.tree < search.limits.budget) × (most_proving_depth search.tree < search.limits.depth)
IsStuckFor Memory search = Unit {0}

-- what each answer of a step says
abbrev pub IsStepOf : SearchState → Step → SearchState → Type 0
IsStepOf old Expanded new =
    IsUndecided old.tree × (count old.tree < old.limits.budget) × IsExpansion old.limits.depth old.line.frame old.line.state old.tree new.tree
IsStepOf old Closed new = IsUndecided old.tree × IsClosing old.limits.depth old.line.frame old.line.state old.tree new.tree
IsStepOf old Settled new = (IsUndecided old.tree → ⊥) × (new ≡ old)
IsStepOf old (Stuck Budget) new = IsStuckFor Budget old × (new ≡ old)
IsStepOf old (Stuck Depth) new = IsStuckFor Depth old × (new ≡ old)
IsStepOf old (Stuck Total) new = IsStuckFor Total old × (new ≡ old)
IsStepOf old (Stuck Memory) new = IsUndecided old.tree × (new ≡ old)
