-- Steps that keep the numbers of a tree, and then one more. For private contracts and proofs.
use Rattle.std.specs.Prelude.{◌≡◌, ℕ, zero, suc, ◌+◌, ◌⊎◌}
use Rattle.tt_game.specs.declared.frame.Side.{Side}
use Rattle.tt_search.specs.PartialTree.{PartialTree}
use Rattle.tt_search.specs.Numbers.{number}
use Rattle.tt_search.specs.Growing.{IsExpansion, IsClosing}
use Rattle.tt_search.specs.inside.Walking.{Stand, Stage, stage, stand_of}
use Rattle.tt_search.specs.inside.Taken.{Taken, IsLeft}
use Rattle.tt_search.specs.declared.limits.Step.{Step}
use Rattle.tt_search.specs.declared.descent.StopAfter.{StopAfter}
use Rattle.tt_search.specs.declared.descent.StopAfter.TheVariants.{OneStep}
use Rattle.tt_search.specs.declared.descent.Descent.{Descent}

-- the trees have the same proof number and the same disproof number
abbrev pub HaveSameNumbers : PartialTree → PartialTree → Type 0
HaveSameNumbers a b = (goal : Side) → number goal b ≡ number goal a

-- a tree grows by an expansion, which takes one off what the budget has left, or by a closing
abbrev pub IsGrowth : Stand → Stage → Stage → Type 0
IsGrowth at old new =
    ((old.left ≡ new.left + 1) × IsExpansion at.room at.frame at.state old.tree new.tree) ⊎ ((old.left ≡ new.left) × IsClosing at.room at.frame at.state old.tree new.tree)

-- so many growths lead from a tree to another one, and each keeps the numbers
abbrev pub Steady : ℕ → Stand → Stage → Stage → Type 0
Steady zero at old new = new ≡ old
Steady (suc n) at old new = (before : Stage) × Steady n at old before × IsGrowth at before new × HaveSameNumbers before.tree new.tree

-- steps at an undecided tree: all but the last keep the numbers, and the last one answers the step; at the pace of one
-- step there is no other
pub record AreStepsAt (stop : StopAfter) (at : Stand) (old : Stage) (step : Step) (new : Stage) : Type 0 where
  pub how_many : ℕ
  pub before : Stage
  pub steady : Steady how_many at old before
  pub one : stop ≡ OneStep → how_many ≡ 0
  pub taken : Taken at before step new.tree
  pub counted : IsLeft step before.left new.left

-- the steps of a walk at a tree
abbrev pub AreSteps : StopAfter → Descent → PartialTree → Step → PartialTree → Descent → Type 0
AreSteps stop walk old step new after = AreStepsAt stop (stand_of walk) (stage old walk.left) step (stage new after.left)
