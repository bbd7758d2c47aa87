-- What steps together ask for, and what they spend.
use Rattle.std.proofs.Common.{◌≡◌, ◌↔◌, ℕ, ◌+◌, ◌-◌, ◌^◌, ◌<◌, ◌⊎◌, Bool, true, false, Some, inl, inr, refl, sym, ◌∙◌, ap, subst, arith}
use Rattle.tt_search.specs.Grants.{GrantTally, IsAskOfStep}
use Rattle.tt_search.specs.inside.Asking.{AreAsked}
use Rattle.tt_search.specs.PartialTree.{PartialTree}
use Rattle.tt_search.specs.inside.Walking.{Stand, Stage}
use Rattle.tt_search.specs.inside.Taken.{Taken}
use Rattle.tt_search.specs.SearchState.{SearchState}
use Rattle.tt_search.specs.RunEnds.{HasGrantPerExpansion, IsTallyAfterRun}
use Rattle.tt_search.specs.declared.search.End.TheVariants as end
use Rattle.tt_search.specs.declared.limits.Reason.{Reason}
use Rattle.tt_search.specs.declared.limits.Reason.TheVariants.{Budget, Depth, Total, Memory}
use Rattle.tt_search.specs.declared.limits.Step.{Step}
use Rattle.tt_search.specs.declared.limits.Step.TheVariants.{Expanded, Closed, Settled, Stuck}
use Rattle.tt_search.specs.declared.descent.StopAfter.{StopAfter}
use Rattle.tt_search.specs.declared.descent.StopAfter.TheVariants.{OneStep}

-- an expansion needs some of what is left
pub room_to_ask : (at : Stand) (old : Stage) (step : Step) (tree : PartialTree) (granted : ℕ) → Taken at old step tree → granted + old.left < 2 ^ 64 → step ≡ Expanded → granted < 2 ^ 64 - 1
room_to_ask at old step tree granted h room e =
    let some = (subst (λ s. Taken at old s tree) e h).0 in
    let left : 0 < old.left = grind arith in
    omega (arith, left, room)

-- one step asks for what it asks
pub asked_once : (stop : StopAfter) (old new : GrantTally) (step : Step) → IsAskOfStep old step new → AreAsked stop old step new
asked_once stop old new step h = record { before = old; granted = refl; one = λ e. refl; asked = h }

-- what was granted so far, where none was refused
pub record IsGranted (stop : StopAfter) (old now : GrantTally) : Type 0 where
  pub same : now.refused ≡ old.refused
  pub one : stop ≡ OneStep → now ≡ old

-- nothing yet
pub granted_first : (stop : StopAfter) (old : GrantTally) → IsGranted stop old old
granted_first stop old = record { same = refl; one = λ e. refl }

module _ (stop : StopAfter) (old now new : GrantTally) (step : Step) (far : IsGranted stop old now) (h : AreAsked stop now step new) where
  -- a round that is the last one
  pub asked_last : AreAsked stop old step new
  asked_last = record { before = h.before; granted = h.granted ∙ far.same; one = λ e. h.one e ∙ far.one e; asked = h.asked }

  -- an expansion is asked for only where none was refused, and then none is
  kept_by : (before : GrantTally) → (step ≡ Expanded) ⊎ (step ≡ Closed) → IsAskOfStep before step new → new.refused ≡ before.refused
  kept_by before (inl e) k = let was = subst (λ s. IsAskOfStep before s new) e k in ap (λ (a : GrantTally). a.refused) was.1 ∙ sym was.0
  kept_by before (inr e) k = ap (λ (a : GrantTally). a.refused) (subst (λ s. IsAskOfStep before s new) e k)

  -- a round that changes its tree, where others follow
  pub granted_more : (once : Bool) → (once ≡ true) ↔ (stop ≡ OneStep) → once ≡ false → (step ≡ Expanded) ⊎ (step ≡ Closed) → IsGranted stop old new
  granted_more once says more changed = record {
    same = kept_by h.before changed h.asked ∙ h.granted ∙ far.same;
    one = λ e. let is : once ≡ true = says.1 e in cc;
  }

-- ---- runs

-- where the last step expands or closes, none is refused
pub kept_refused : (stop : StopAfter) (old new : GrantTally) (step : Step) → AreAsked stop old step new → (step ≡ Expanded) ⊎ (step ≡ Closed) → new.refused ≡ old.refused
kept_refused stop old new step h changed = kept_by stop old old new step (granted_first stop old) h h.before changed h.asked ∙ h.granted

-- nor where it finds the search settled
pub settled_refused : (stop : StopAfter) (old new : GrantTally) → AreAsked stop old Settled new → new.refused ≡ old.refused
settled_refused stop old new h = ap (λ (a : GrantTally). a.refused) h.asked ∙ h.granted

-- what a run spent that ends stuck
pub spent_stuck : (stop : StopAfter) (start search : SearchState) (first old new : GrantTally) (reason : Reason) → HasGrantPerExpansion start first search new → old.refused ≡ first.refused
    → AreAsked stop old (Stuck reason) new → IsTallyAfterRun start first (end.Stuck reason (Some search)) new
spent_stuck stop start search first old new Budget spent same h = (spent, ap (λ (a : GrantTally). a.refused) h.asked ∙ h.granted ∙ same)
spent_stuck stop start search first old new Depth spent same h = (spent, ap (λ (a : GrantTally). a.refused) h.asked ∙ h.granted ∙ same)
spent_stuck stop start search first old new Total spent same h = (spent, ap (λ (a : GrantTally). a.refused) h.asked)
spent_stuck stop start search first old new Memory spent same h = (spent, ap (λ (a : GrantTally). a.refused) h.asked ∙ h.granted ∙ same)
