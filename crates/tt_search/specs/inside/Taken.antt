-- What a step does to an undecided tree. For private contracts and proofs.
use Rattle.std.specs.Prelude.{◌≡◌, ◌≢◌, ℕ, ◌+◌, ◌<◌}
use Rattle.tt_search.specs.PartialTree.{PartialTree}
use Rattle.tt_search.specs.MostProving.{most_proving_depth}
use Rattle.tt_search.specs.Growing.{IsExpansion, IsClosing}
use Rattle.tt_search.specs.inside.Walking.{Stand, Stage}
use Rattle.tt_search.specs.declared.limits.Step.{Step}
use Rattle.tt_search.specs.declared.limits.Step.TheVariants.{Expanded, Closed, Settled, Stuck}
use Rattle.tt_search.specs.declared.limits.Reason.TheVariants.{Budget, Depth, Total, Memory}

-- a step at an undecided tree, and the tree that it makes
abbrev pub Taken : Stand → Stage → Step → PartialTree → Type 0
Taken at old Expanded new = (old.left ≢ 0) × IsExpansion at.room at.frame at.state old.tree new
Taken at old Closed new = IsClosing at.room at.frame at.state old.tree new
Taken at old Settled new = ⊥
Taken at old (Stuck Budget) new = (old.left ≡ 0) × (new ≡ old.tree)
Taken at old (Stuck Depth) new = (old.left ≢ 0) × (most_proving_depth old.tree ≡ at.room) × (new ≡ old.tree)
Taken at old (Stuck Total) new = (old.left ≢ 0) × (most_proving_depth old.tree < at.room) × (new ≡ old.tree)
Taken at old (Stuck Memory) new = new ≡ old.tree

-- what the budget has left after a step
abbrev pub IsLeft : Step → ℕ → ℕ → Type 0
IsLeft Expanded left left_after = left ≡ left_after + 1
IsLeft Closed left left_after = left ≡ left_after
IsLeft Settled left left_after = left ≡ left_after
IsLeft (Stuck reason) left left_after = left ≡ left_after
