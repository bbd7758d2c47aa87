-- Results of jobs.
use Rattle.std.proofs.Common.{◌≡◌, ◌≢◌, ℕ, zero, suc, Bool, true, false, ◌⊎◌, inl, inr, List, [], ◌∷◌, ◌++◌, Option, Some, None, slice_get, slice_set, refl, sym, ap, subst}
use Rattle.std.proofs.lemmas.Option.{same_Some, none-some}
use Rattle.tt_game.specs.Line.{LineWithUndo}
use Rattle.tt_search.specs.declared.limits.Limits.{Limits}
use Rattle.tt_share.specs.declared.jobs.JobResult.{JobResult}
use Rattle.tt_game.specs.declared.turns.Turn.{Turn}
use Rattle.tt_share.specs.declared.jobs.JobResult.TheVariants as result
use Rattle.tt_share.specs.inside.Jobs.{EndsBehind, IsResultOf, AreResults, end_of, kept_of}
use Rattle.tt_share.proofs.LastWins.{read_more}

-- what is read after a write is what was written there, or what was read before it
pub read_after : {X : Type 0} (xs : List X) (i k : ℕ) (x y : X) → slice_get (slice_set xs i x) k ≡ Some y → ((k ≡ i) × (x ≡ y)) ⊎ (slice_get xs k ≡ Some y)
read_after [] i k x y is = inr is
read_after (z ∷ zs) zero zero x y is = inl (refl, same_Some x y is)
read_after (z ∷ zs) zero (suc k) x y is = inr is
read_after (z ∷ zs) (suc i) zero x y is = inr is
read_after (z ∷ zs) (suc i) (suc k) x y is = elim (read_after zs i k x y is) [
  | inl h ↦ inl (ap suc h.0, h.1)
  | inr h ↦ inr h
]

-- one more job whose end isn't known
pub none_more : (line : LineWithUndo) (limits : Limits) (ends : List (Option JobResult)) → AreResults line limits ends → AreResults line limits (ends ++ None ∷ [])
none_more line limits ends all job end at = elim (read_more ends None job (Some end) at) [
  | inl h ↦ all job end h
  | inr h ↦ absurd (none-some end h.1)
]

-- one more end that is its job's
pub one_more_result : (line : LineWithUndo) (limits : Limits) (ends : List (Option JobResult)) (job : ℕ) (end : JobResult) → AreResults line limits ends → IsResultOf line limits job end
    → AreResults line limits (slice_set ends job (Some end))
one_more_result line limits ends job end all this k e is = elim (read_after ends job k (Some end) (Some e) is) [
  | inl h ↦ subst (IsResultOf line limits k) (same_Some end e h.1) (subst (λ n. IsResultOf line limits n end) (sym h.0) this)
  | inr h ↦ all k e h
]

-- an end is its job's also as it is kept
pub kept_behind : (line : LineWithUndo) (limits : Limits) (t : Turn) (past_stuck : Bool) (end : JobResult) → EndsBehind line limits t (end_of end)
    → EndsBehind line limits t (end_of (kept_of past_stuck end))
kept_behind line limits t false end h = h
kept_behind line limits t true (result.Settled p) h = h
kept_behind line limits t true (result.Stuck reason search) h = tt
kept_behind line limits t true result.Dropped h = tt
kept_behind line limits t true result.NoMemory h = tt

-- so is the end of a job
pub kept_result : (line : LineWithUndo) (limits : Limits) (job : ℕ) (past_stuck : Bool) (end : JobResult) → IsResultOf line limits job end → IsResultOf line limits job (kept_of past_stuck end)
kept_result line limits job past_stuck end this t at = kept_behind line limits t past_stuck end (this t at)

-- what is written is read where it was written
pub get_set_same : {X : Type 0} (xs : List X) (i : ℕ) (x y : X) → slice_get xs i ≡ Some y → slice_get (slice_set xs i x) i ≡ Some x
get_set_same [] i x y is = absurd (none-some y is)
get_set_same (z ∷ zs) zero x y is = refl
get_set_same (z ∷ zs) (suc i) x y is = get_set_same zs i x y is

-- and nothing else changes
pub get_set_other : {X : Type 0} (xs : List X) (i k : ℕ) (x : X) → k ≢ i → slice_get (slice_set xs i x) k ≡ slice_get xs k
get_set_other [] i k x other = refl
get_set_other (z ∷ zs) zero zero x other = absurd (other refl)
get_set_other (z ∷ zs) zero (suc k) x other = refl
get_set_other (z ∷ zs) (suc i) zero x other = refl
get_set_other (z ∷ zs) (suc i) (suc k) x other = get_set_other zs i k x (λ e. other (ap suc e))
