-- Steps together keep what is true of every search, and are steps of it one after the other.
use Rattle.std.proofs.Common.{◌≡◌, ℕ, zero, suc, ◌+◌, ◌-◌, ◌*◌, ◌<◌, ◌≤◌, ◌⊎◌, inl, inr, refl, sym, ◌∙◌, ap, subst, arith}
use Rattle.tt_game.specs.declared.frame.Frame.{Frame}
use Rattle.tt_game.specs.Game.{State}
use Rattle.tt_game.specs.Line.{LineWithUndo}
use Rattle.tt_search.specs.PartialTree.{PartialTree}
use Rattle.tt_search.specs.Numbers.{count, IsUndecided}
use Rattle.tt_search.specs.MostProving.{most_proving_depth}
use Rattle.tt_search.specs.Growing.{IsExpansion, IsClosing, IsGrowthStep, IsGrownInSteps, IsGrownFrom}
use Rattle.tt_search.specs.inside.Walking.{Stand, Stage, stage, stand}
use Rattle.tt_search.specs.inside.Taken.{Taken, IsLeft}
use Rattle.tt_search.specs.inside.Steady.{IsGrowth, Steady, AreStepsAt}
use Rattle.tt_search.specs.inside.Searching.{IsSearch}
use Rattle.tt_search.specs.SearchState.{SearchState, HasSameLineAndLimits, IsStuckFor, IsStepOf}
use Rattle.tt_search.specs.RunEnds.{HasRunTo}
use Rattle.tt_search.specs.inside.Advanced.{IsAdvanced}
use Rattle.tt_search.specs.declared.limits.Limits.{Limits}
use Rattle.tt_search.specs.declared.limits.Reason.{Reason}
use Rattle.tt_search.specs.declared.limits.Reason.TheVariants.{Budget, Depth, Total, Memory}
use Rattle.tt_search.specs.declared.limits.Step.{Step}
use Rattle.tt_search.specs.declared.limits.Step.TheVariants.{Expanded, Closed, Settled, Stuck}
use Rattle.tt_search.specs.declared.descent.StopAfter.{StopAfter}
use Rattle.tt_search.proofs.Open.{open_leaves, left_to_do, falls, falls_expanded, falls_closed, reached_itself, reached_more, same_problem}
use Rattle.tt_search.proofs.Steady.{steady_undecided}
use Rattle.tt_search.proofs.Steps.{search_expanded, search_closed}

module _ (at : Stand) (limits : Limits) where
  -- a growth keeps what is true of every search
  growth_with : (old new : Stage) → IsSearch at limits old → IsUndecided old.tree → IsGrowth at old new → IsSearch at limits new
  growth_with old new h u (inl g) = search_expanded at limits old new h u g.0 g.1
  growth_with old new h u (inr g) = search_closed at limits old new h u g.0 g.1

  -- so do growths that keep the numbers, one after the other
  pub steady_with : (n : ℕ) (old new : Stage) → IsSearch at limits old → IsUndecided old.tree → Steady n at old new → IsSearch at limits new
  steady_with zero old new h u e = subst (IsSearch at limits) (sym e) h
  steady_with (suc n) old new h u (before, k, g, same) =
      growth_with before new (steady_with n old before h u k) (steady_undecided n at old before k u) g

  -- so does what changes neither the tree nor what the budget has left
  same_with : (old new : Stage) → IsSearch at limits old → new.tree ≡ old.tree → old.left ≡ new.left → IsSearch at limits new
  same_with old new h e l = subst (λ t. IsSearch at limits (stage t new.left)) (sym e) (subst (λ n. IsSearch at limits (stage old.tree n)) l h)

  -- so does a step
  taken_with : (old : Stage) (step : Step) (new : Stage) → IsSearch at limits old → IsUndecided old.tree → Taken at old step new.tree → IsLeft step old.left new.left → IsSearch at limits new
  taken_with old Expanded new h u k l = growth_with old new h u (inl (l, k.1))
  taken_with old Closed new h u k l = growth_with old new h u (inr (l, k))
  taken_with old Settled new h u k l = absurd k
  taken_with old (Stuck Budget) new h u k l = same_with old new h k.1 l
  taken_with old (Stuck Depth) new h u k l = same_with old new h k.2 l
  taken_with old (Stuck Total) new h u k l = same_with old new h k.2 l
  taken_with old (Stuck Memory) new h u k l = same_with old new h k l

  -- and so do steps together
  pub steps_with : (stop : StopAfter) (old : Stage) (step : Step) (new : Stage) → IsSearch at limits old → IsUndecided old.tree → AreStepsAt stop at old step new → IsSearch at limits new
  steps_with stop old step new h u k =
      taken_with k.before step new (steady_with k.how_many old k.before h u k.steady) (steady_undecided k.how_many at old k.before k.steady u) k.taken k.counted

  -- a growth of a search is one within its limits
  grows_with : (old new : Stage) → IsSearch at limits old → IsUndecided old.tree → IsGrowth at old new → IsGrowthStep limits at.frame at.state old.tree new.tree
  grows_with old new h u (inl g) =
      (u, inl (omega (arith, g.0, h.counted), subst (λ r. IsExpansion r at.frame at.state old.tree new.tree) h.room g.1))
  grows_with old new h u (inr g) = (u, inr (subst (λ r. IsClosing r at.frame at.state old.tree new.tree) h.room g.1))

  -- growths that keep the numbers are growths within the limits
  pub grown_steady : (n : ℕ) (old new : Stage) → IsSearch at limits old → IsUndecided old.tree → Steady n at old new → IsGrownInSteps n limits at.frame at.state old.tree new.tree
  grown_steady zero old new h u e = ap (λ (x : Stage). x.tree) e
  grown_steady (suc n) old new h u (before, k, g, same) = (
    before.tree,
    grown_steady n old before h u k,
    grows_with before new (steady_with n old before h u k) (steady_undecided n at old before k u) g,
  )

abbrev searched : LineWithUndo → Limits → PartialTree → SearchState
searched line limits tree = record { line = line; limits = limits; tree = tree }

module _ (line : LineWithUndo) (room : ℕ) (limits : Limits) where
  -- what a step at the root is to a search
  step_of : (old : Stage) (step : Step) (new : Stage) → IsSearch (stand line room) limits old → IsUndecided old.tree → Taken (stand line room) old step new.tree
      → IsLeft step old.left new.left → IsStepOf (searched line limits old.tree) step (searched line limits new.tree)
  step_of old Expanded new h u k l = (u, omega (arith, l, h.counted), subst (λ r. IsExpansion r line.frame line.state old.tree new.tree) h.room k.1)
  step_of old Closed new h u k l = (u, subst (λ r. IsClosing r line.frame line.state old.tree new.tree) h.room k)
  step_of old Settled new h u k l = absurd k
  step_of old (Stuck Budget) new h u k l = ((u, omega (arith, k.0, h.counted)), ap (searched line limits) k.1)
  step_of old (Stuck Depth) new h u k l = ((u, omega (arith, k.0, h.counted), k.1 ∙ h.room), ap (searched line limits) k.2)
  step_of old (Stuck Total) new h u k l = ((u, omega (arith, k.0, h.counted), subst (λ (r : ℕ). most_proving_depth old.tree < r) h.room k.1), ap (searched line limits) k.2)
  step_of old (Stuck Memory) new h u k l = (u, ap (searched line limits) k)

  -- no growths leave the tree as it was
  no_steps : (n : ℕ) (old new : Stage) → n ≡ 0 → Steady n (stand line room) old new → new.tree ≡ old.tree
  no_steps n old new e h = ap (λ (x : Stage). x.tree) (subst (λ n. Steady n (stand line room) old new) e h)

  -- what steps at the root are to a search
  pub advanced : (stop : StopAfter) (old : Stage) (step : Step) (new : Stage) → IsSearch (stand line room) limits old → IsUndecided old.tree
      → AreStepsAt stop (stand line room) old step new → IsAdvanced stop (searched line limits old.tree) step (searched line limits new.tree)
  advanced stop old step new h u k = record {
    before = searched line limits k.before.tree;
    reached = record {
      problem = record { line = refl; limits = refl };
      grown = (k.how_many, grown_steady (stand line room) limits k.how_many old k.before h u k.steady);
    };
    one = λ e. ap (searched line limits) (no_steps k.how_many old k.before (k.one e) k.steady);
    taken = step_of k.before step new (steady_with (stand line room) limits k.how_many old k.before h u k.steady)
        (steady_undecided k.how_many (stand line room) old k.before k.steady u) k.taken k.counted;
  }

-- a decided search is advanced by the answer that it is settled, and stays as it was
pub advanced_settled : (stop : StopAfter) (old : SearchState) → (IsUndecided old.tree → ⊥) → IsAdvanced stop old Settled old
advanced_settled stop old h = record { before = old; reached = reached_itself old; one = λ e. refl; taken = (h, refl) }

-- ---- runs

-- growths may go on where others ended
grown_joined : (n : ℕ) (limits : Limits) (f : Frame) (s : State) (a b c : PartialTree) → IsGrownFrom limits f s a b → IsGrownInSteps n limits f s b c → IsGrownFrom limits f s a c
grown_joined zero limits f s a b c h e = subst (IsGrownFrom limits f s a) (sym e) h
grown_joined (suc n) limits f s a b c h (before, k, g) =
    let joined = grown_joined n limits f s a b before h k in
    (suc joined.0, (before, joined.1, g))

-- what is reached from a search that is reached is reached
pub reached_joined : (a b c : SearchState) → HasRunTo a b → HasRunTo b c → HasRunTo a c
reached_joined a b c h k = record {
  problem = same_problem a b c h.problem k.problem;
  grown =
      let grown = subst (λ l. IsGrownFrom l a.line.frame a.line.state b.tree c.tree) h.problem.limits (subst (λ l. IsGrownFrom b.limits l.frame l.state b.tree c.tree) h.problem.line k.grown) in
      grown_joined grown.0 a.limits a.line.frame a.line.state a.tree b.tree c.tree h.grown grown.1;
}

-- a growth leaves less to do
grows_falls : (limits : Limits) (f : Frame) (s : State) (old new : PartialTree) → IsGrowthStep limits f s old new
    → open_leaves new + (limits.budget - count new) * 363 < open_leaves old + (limits.budget - count old) * 363
grows_falls limits f s old new (u, inl g) = falls_expanded limits.depth limits.budget f s old new u g.0 g.1
grows_falls limits f s old new (u, inr g) = falls_closed limits.depth limits.budget f s old new u g

-- growths together leave no more to do
grown_falls : (n : ℕ) (limits : Limits) (f : Frame) (s : State) (old new : PartialTree) → IsGrownInSteps n limits f s old new
    → open_leaves new + (limits.budget - count new) * 363 ≤ open_leaves old + (limits.budget - count old) * 363
grown_falls zero limits f s old new e = omega (arith, ap open_leaves e, ap count e)
grown_falls (suc n) limits f s old new (before, k, g) = omega (arith, grown_falls n limits f s old before k, grows_falls limits f s before new g)

-- a search that is reached has no more left to do
reached_falls : (old new : SearchState) → HasRunTo old new → left_to_do new ≤ left_to_do old
reached_falls old new h = subst (λ l. open_leaves new.tree + (l.budget - count new.tree) * 363 ≤ left_to_do old) (sym h.problem.limits)
    (grown_falls h.grown.0 old.limits old.line.frame old.line.state old.tree new.tree h.grown.1)

-- two searches on the problem of one search are on the same problem
since_before : (old before new : SearchState) → HasSameLineAndLimits old before → HasSameLineAndLimits old new → HasSameLineAndLimits before new
since_before old before new h k = record { line = k.line ∙ sym h.line; limits = k.limits ∙ sym h.limits }

-- steps whose last one expands or closes leave less to do
pub advanced_falls : (stop : StopAfter) (old new : SearchState) (step : Step) → IsAdvanced stop old step new → HasSameLineAndLimits old new → (step ≡ Expanded) ⊎ (step ≡ Closed)
    → left_to_do new < left_to_do old
advanced_falls stop old new step h same changed =
    omega (arith, reached_falls old h.before h.reached, falls h.before new step h.taken (since_before old h.before new h.reached.problem same) changed)

-- from a search that is reached, steps whose last one expands or closes lead to one that is reached
pub advanced_reached : (stop : StopAfter) (start old new : SearchState) (step : Step) → HasRunTo start old → IsAdvanced stop old step new → HasSameLineAndLimits old new → (step ≡ Expanded)
    ⊎ (step ≡ Closed) → HasRunTo start new
advanced_reached stop start old new step r h same changed =
    reached_more start h.before new step (reached_joined start old h.before r h.reached) (since_before old h.before new h.reached.problem same) h.taken changed

-- so do steps whose last one finds the search settled
pub settled_reached : (stop : StopAfter) (start old new : SearchState) → HasRunTo start old → IsAdvanced stop old Settled new → HasRunTo start new
settled_reached stop start old new r h = subst (HasRunTo start) (sym h.taken.1) (reached_joined start old h.before r h.reached)

-- a stuck step says that its search is stuck for the reason, and leaves it as it was
stuck_of : (reason : Reason) (old new : SearchState) → IsStepOf old (Stuck reason) new → IsStuckFor reason old × (new ≡ old)
stuck_of Budget old new h = h
stuck_of Depth old new h = h
stuck_of Total old new h = h
stuck_of Memory old new h = (tt, h.1)

-- steps that end stuck lead to a search that is reached and stuck for the reason
pub stuck_reached : (stop : StopAfter) (start old new : SearchState) (reason : Reason) → HasRunTo start old → IsAdvanced stop old (Stuck reason) new → HasRunTo start new × IsStuckFor reason new
stuck_reached stop start old new reason r h =
    let stuck = stuck_of reason h.before new h.taken in
    (subst (HasRunTo start) (sym stuck.1) (reached_joined start old h.before r h.reached), subst (IsStuckFor reason) (sym stuck.1) stuck.0)
