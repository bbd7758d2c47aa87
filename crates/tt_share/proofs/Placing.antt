-- Results that are put at their slots.
use Rattle.std.proofs.Common.{◌≡◌, ◌≢◌, ℕ, zero, suc, ◌<◌, inl, inr, List, [], ◌∷◌, ◌++◌, All, Option, Some, None, slice_get, slice_set, get_or, length}
use Rattle.std.proofs.Common.{map, reverse, refl, sym, ap, subst, ◌∙◌, arith, append_assoc}
use Rattle.std.proofs.lemmas.List.{map-append, reverse-append}
use Rattle.std.proofs.lemmas.Option.{same_Some, none-some}
use Rattle.tt_game.specs.Line.{LineWithUndo}
use Rattle.tt_game.specs.declared.turns.Turn.{Turn}
use Rattle.tt_search.specs.declared.limits.Limits.{Limits}
use Rattle.tt_share.specs.declared.jobs.JobResult.{JobResult}
use Rattle.tt_share.specs.declared.jobs.SearchedJob.{SearchedJob}
use Rattle.tt_share.specs.declared.workers.HandedBack.{HandedBack}
use Rattle.tt_share.specs.inside.Jobs.{kept_of}
use Rattle.tt_share.specs.inside.Results.{ResultsSoFar, Puts, HasEnd, IsPastStuck, KeepsEnds}
use Rattle.tt_share.specs.inside.Workers.{IsPlaced, AllPlaced, IsGiven, AreGiven, OnlyHandedBack}
use Rattle.tt_share.proofs.ResultLemmas.{read_after, get_set_same, get_set_other}

-- what is known of what contracts see is known of the fields of results
pub seen : (P : LineWithUndo → Limits → Type 0) (line : LineWithUndo) (limits : Limits) (ends : List (Option JobResult)) (spent : List (Turn × ℕ)) (p : ResultsSoFar)
    → record { line = line; limits = limits; ends = ends; spent = spent } ≡ p → P p.line p.limits → P line limits
seen P line limits ends spent p same h =
    subst (λ l. P line l) (sym (ap (λ (q : ResultsSoFar). q.limits) same)) (subst (λ l. P l p.limits) (sym (ap (λ (q : ResultsSoFar). q.line) same)) h)

-- and what is known of the fields is known of what contracts see
pub shown : (P : LineWithUndo → Limits → List (Option JobResult) → Type 0) (line : LineWithUndo) (limits : Limits) (ends : List (Option JobResult)) (spent : List (Turn × ℕ)) (p : ResultsSoFar)
    → record { line = line; limits = limits; ends = ends; spent = spent } ≡ p
    → P line limits ends → P p.line p.limits p.ends
shown P line limits ends spent p same h = subst (λ (q : ResultsSoFar). P q.line q.limits q.ends) same h

-- what holds of a line and limits holds where the ends and their counts alone changed
pub same_asked : (P : LineWithUndo → Limits → Type 0) (old new : ResultsSoFar) → new ≡ record old { ends = new.ends; spent = new.spent } → P old.line old.limits → P new.line new.limits
same_asked P old new same h =
    subst (λ l. P new.line l) (sym (ap (λ (p : ResultsSoFar). p.limits) same)) (subst (λ l. P l old.limits) (sym (ap (λ (p : ResultsSoFar). p.line) same)) h)

-- twice the ends and their counts alone changed
pub same_twice : (a b c : ResultsSoFar) → b ≡ record a { ends = b.ends; spent = b.spent } → c ≡ record b { ends = c.ends; spent = c.spent } → c ≡ record a { ends = c.ends; spent = c.spent }
same_twice a b c first second = second ∙ ap (λ (p : ResultsSoFar). record p { ends = c.ends; spent = c.spent }) first

-- a slot within the list is there
none_past : {X : Type 0} (xs : List X) (i : ℕ) → i < length xs → slice_get xs i ≡ None → ⊥
none_past [] i low is = absurd (omega (arith, low))
none_past (x ∷ xs) zero low is = none-some x (sym is)
none_past (x ∷ xs) (suc i) low is = none_past xs i (omega (arith, low)) is

not_free : {X : Type 0} (x : X) → Some (Some x) ≡ Some None → ⊥
not_free x e = none-some x (sym (same_Some (Some x) None e))

not_there : {X : Type 0} (x : X) → None ≡ Some x → ⊥
not_there x e = none-some x e

-- what stood there still does
keeps_at : (old new : List (Option JobResult)) (f : SearchedJob) (o : Option (Option JobResult)) → slice_get old f.job ≡ o → Puts old new f → KeepsEnds old new
keeps_at old new f None is puts job end at = subst (λ l. HasEnd l job end) (sym (puts.dropped (λ e. not_there None (sym is ∙ e)))) at
keeps_at old new f (Some None) is puts job end at =
    let other : job ≢ f.job = λ e. not_free end (sym at ∙ (ap (λ n. slice_get old n) e ∙ is)) in
    let p = puts.put is in
    ap (λ l. slice_get l job) p.2 ∙ (get_set_other old f.job job (Some (kept_of p.0 f.end)) other ∙ at)
keeps_at old new f (Some (Some had)) is puts job end at = subst (λ l. HasEnd l job end) (sym (puts.dropped (λ e. not_free had (sym is ∙ e)))) at

-- putting a result keeps each one that stood there
pub keeps : (old new : List (Option JobResult)) (f : SearchedJob) → Puts old new f → KeepsEnds old new
keeps old new f puts = keeps_at old new f (slice_get old f.job) refl puts

-- and the result stands at its slot, or the one that stood there
slots_at : (old new : List (Option JobResult)) (f : SearchedJob) (o : Option (Option JobResult)) → slice_get old f.job ≡ o → Puts old new f → IsPlaced new f
slots_at old new f None is puts low = absurd (none_past old f.job (let e = puts.len in omega (arith, low, e)) is)
slots_at old new f (Some None) is puts low =
    let p = puts.put is in
    (kept_of p.0 f.end, ap (λ l. slice_get l f.job) p.2 ∙ get_set_same old f.job (Some (kept_of p.0 f.end)) None is)
slots_at old new f (Some (Some had)) is puts low = (had, ap (λ l. slice_get l f.job) (puts.dropped (λ e. not_free had (sym is ∙ e))) ∙ is)

-- putting a result leaves its job with one
pub slots : (old new : List (Option JobResult)) (f : SearchedJob) → Puts old new f → IsPlaced new f
slots old new f puts = slots_at old new f (slice_get old f.job) refl puts

-- what is kept twice is kept
pub keeps_twice : (a b c : List (Option JobResult)) → KeepsEnds a b → KeepsEnds b c → KeepsEnds a c
keeps_twice a b c ab bc job end at = bc job end (ab job end at)

-- what was placed stays so
pub placed_still : (old new : List (Option JobResult)) (f : SearchedJob) → length new ≡ length old → KeepsEnds old new → IsPlaced old f → IsPlaced new f
placed_still old new f len kept was low = let h = was (omega (arith, low, len)) in (h.0, kept f.job h.0 h.1)

-- so does each of a list
pub all_still : (old new : List (Option JobResult)) (fs : List SearchedJob) → length new ≡ length old → KeepsEnds old new → All (IsPlaced old) fs → All (IsPlaced new) fs
all_still old new fs len kept was k d short = placed_still old new (get_or fs k d) len kept (was k d short)

-- and so do those that workers handed back
pub backs_still : (old new : List (Option JobResult)) (bs : List HandedBack) → length new ≡ length old → KeepsEnds old new → All (AllPlaced old) bs → All (AllPlaced new) bs
backs_still old new bs len kept was k d short = all_still old new (get_or bs k d).searched.items len kept (was k d short)

-- what holds of one and of all others holds of all
pub all_more : {X : Type 0} (P : X → Type 0) (x : X) (xs : List X) → P x → All P xs → All P (x ∷ xs)
all_more P x xs this all zero d short = this
all_more P x xs this all (suc k) d short = all k d (omega (arith, short))

-- one more was taken from the end
pub taken_more : {X : Type 0} (all left less taken : List X) (x : X) → all ≡ left ++ taken → left ≡ less ++ x ∷ [] → all ≡ less ++ x ∷ taken
taken_more all left less taken x was is = was ∙ (ap (λ l. l ++ taken) is ∙ append_assoc less (x ∷ []) taken)

-- what stands between two lists has the length of the first one as its slot
pub there_at : {X : Type 0} (less more : List X) (x : X) → slice_get (less ++ x ∷ more) (length less) ≡ Some x
there_at [] more x = refl
there_at (y ∷ less) more x = there_at less more x

-- and it stood among all
pub taken_there : {X : Type 0} (all left less taken : List X) (x : X) → all ≡ left ++ taken → left ≡ less ++ x ∷ [] → slice_get all (length less) ≡ Some x
taken_there all left less taken x was is = ap (λ l. slice_get l (length less)) (taken_more all left less taken x was is) ∙ there_at less taken x

-- one more was put behind the images of those that were taken, the last first
pub reversed_more : {A B : Type 0} (f : A → B) (done after all : List B) (x : A) (left less : List A) → left ≡ less ++ x ∷ [] → after ≡ done ++ f x ∷ []
    → done ++ reverse (map f left) ≡ all → after ++ reverse (map f less) ≡ all
reversed_more f done after all x left less is more was =
    let last : reverse (map f left) ≡ f x ∷ reverse (map f less) =
    ap (λ l. reverse (map f l)) is ∙ (ap reverse (map-append f less (x ∷ [])) ∙ reverse-append (map f less) (f x ∷ [])) in
    ap (λ l. l ++ reverse (map f less)) more ∙ (append_assoc done (f x ∷ []) (reverse (map f less)) ∙ (ap (λ l. done ++ l) (sym last) ∙ was))

-- a lesser stuck job stays stuck
past_still : (old new : List (Option JobResult)) (job : ℕ) → KeepsEnds old new → IsPastStuck old job → IsPastStuck new job
past_still old new job kept past = (past.0, past.1, (past.2.0, kept past.0 past.2.0 past.2.1, past.2.2))

-- and a result that is one of these stays so
given_still : (old new : List (Option JobResult)) (found : List SearchedJob) (job : ℕ) (end : JobResult) → KeepsEnds old new → IsGiven old found job end → IsGiven new found job end
given_still old new found job end kept was = (was.0, was.1, was.2, was.3, was.4, (λ up. past_still old new job kept (was.5 up)), was.6)

-- with one more of these results put, each result still stood there before or is one of these
given_at : (first old new : List (Option JobResult)) (all : List SearchedJob) (i : ℕ) (f : SearchedJob) (o : Option (Option JobResult)) → slice_get all i ≡ Some f → slice_get old f.job ≡ o
    → Puts old new f → AreGiven first old all → AreGiven first new all
given_at first old new all i f None there is puts was = subst (λ l. AreGiven first l all) (sym (puts.dropped (λ e. not_there None (sym is ∙ e)))) was
given_at first old new all i f (Some (Some had)) there is puts was = subst (λ l. AreGiven first l all) (sym (puts.dropped (λ e. not_free had (sym is ∙ e)))) was
given_at first old new all i f (Some None) there is puts was = λ job end at. (
    let p = puts.put is in
    let kept = keeps old new f puts in
    let read : slice_get (slice_set old f.job (Some (kept_of p.0 f.end))) job ≡ Some (Some end) = ap (λ l. slice_get l job) (sym p.2) ∙ at in
    elim (read_after old f.job job (Some (kept_of p.0 f.end)) (Some end) read) [
      | inl h ↦ inr (i, f, p.0, there, sym h.0, (λ up. subst (IsPastStuck new) (sym h.0) (past_still old new f.job kept (p.1.0 up))), sym (same_Some (kept_of p.0 f.end) end h.1))
      | inr h ↦ elim (was job end h) [
        | inl g ↦ inl g
        | inr g ↦ inr (given_still old new all job end kept g)
      ]
    ])

-- the same, whatever stood at its slot
pub given_more : (first old new : List (Option JobResult)) (all : List SearchedJob) (i : ℕ) (f : SearchedJob) → slice_get all i ≡ Some f → Puts old new f
    → AreGiven first old all → AreGiven first new all
given_more first old new all i f there puts was = given_at first old new all i f (slice_get old f.job) there refl puts was

-- so it is with what one more worker handed back
pub given_backs : (first old new : List (Option JobResult)) (work : List HandedBack) (i : ℕ) (back : HandedBack) → slice_get work i ≡ Some back → KeepsEnds old new
    → AreGiven old new back.searched.items → OnlyHandedBack first old work → OnlyHandedBack first new work
given_backs first old new work i back there kept this was job end at = elim (this job end at) [
  | inl h ↦ elim (was job end h) [
    | inl g ↦ inl g
    | inr g ↦ inr (g.0, g.1, g.2, given_still old new g.1.searched.items job end kept g.3)
  ]
  | inr h ↦ inr (i, back, there, h)
]
