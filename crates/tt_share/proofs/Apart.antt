-- Results of jobs none of which comes twice.
use Rattle.std.proofs.Common.{◌≡◌, ℕ, suc, ◌+◌, ◌<◌, ◌≤◌, List, [], ◌∷◌, ◌++◌, Option, Some, None, All, slice_get, sum_by, count_by, cond, nat_eq}
use Rattle.std.proofs.Common.{refl, sym, ap, subst, ◌∙◌, arith}
use Rattle.std.proofs.lemmas.Bool.Decides.{nat_tests}
use Rattle.std.proofs.lemmas.List.Sums.{sum_by_push, sum_by-cons, sum_by-append}
use Rattle.std.proofs.lemmas.Option.{none-some, same_Some}
use mathlib.Core.Logic.{dite}
use native.Mathlib.Decide.{ℕ_discrete}
use Rattle.tt_share.specs.declared.jobs.JobResult.{JobResult}
use Rattle.tt_share.specs.declared.jobs.SearchedJob.{SearchedJob}
use Rattle.tt_share.specs.declared.workers.HandedBack.{HandedBack}
use Rattle.tt_share.specs.Answers.{spent_in_all}
use Rattle.tt_share.specs.inside.Jobs.{kept_of}
use Rattle.tt_share.specs.inside.Results.{ResultsSoFar, Puts, Notes}
use Rattle.tt_share.specs.inside.Workers.{times, spent_on, spent_by_all, held, held_in, AreApart, AddsOverdraw, jobs_of}
use Rattle.tt_share.proofs.ResultLemmas.{get_set_other}

-- ---- how often a job is among results

own_one : (n : ℕ) → ◌≡◌ {A = ℕ} (cond (nat_eq n n) 1 0) 1
own_one n = grind (arith, nat_tests)

-- as often as its number is among theirs
times_jobs : (job : ℕ) (found : List SearchedJob) → times job found ≡ count_by (λ n. nat_eq n job) (jobs_of found)
times_jobs job [] = refl
times_jobs job (f ∷ found) =
    let e = times_jobs job found in
    omega (arith, e, sum_by-cons (λ (g : SearchedJob). cond (nat_eq g.job job) 1 0) f found, sum_by-cons (λ (n : ℕ). cond (nat_eq n job) 1 0) f.job (jobs_of found))

-- where all results are of lesser jobs, never
pub none_times : (job limit : ℕ) (found : List SearchedJob) → limit ≤ job → All (λ (f : SearchedJob). f.job < limit) found → times job found ≡ 0
none_times job limit [] past all = refl
none_times job limit (f ∷ found) past all =
    let e = none_times job limit found past (λ k d short. all (suc k) d (omega (arith, short))) in
    let low : f.job < limit = all 0 f (omega arith) in
    let other : ◌≡◌ {A = ℕ} (cond (nat_eq f.job job) 1 0) 0 = grind (arith, nat_tests, low, past) in
    omega (arith, e, other, sum_by-cons (λ (g : SearchedJob). cond (nat_eq g.job job) 1 0) f found)

-- as often at most as the seat drew it
pub times_drawn : (job jobs : ℕ) (first numbers : List ℕ) (found : List SearchedJob) → AddsOverdraw jobs (first ++ jobs_of found) numbers → times job found ≤ count_by (λ n. nat_eq n job) numbers
times_drawn job jobs first numbers found (overdraw, is, all) =
    let weight = λ (n : ℕ). cond (nat_eq n job) 1 0 in
    let sum = ap (sum_by weight) is in
    omega (arith, sum, times_jobs job found, sum_by-append weight (first ++ jobs_of found) overdraw, sum_by-append weight first (jobs_of found))

-- ---- what is put where there was no result

pub held_most : (o : Option (Option JobResult)) → held_in o ≤ 1
held_most None = omega arith
held_most (Some None) = omega arith
held_most (Some (Some end)) = omega arith

free_held : (o : Option (Option JobResult)) → held_in o ≡ 0 → o ≡ Some None
free_held None e = absurd (omega (arith, e))
free_held (Some None) e = refl
free_held (Some (Some end)) e = absurd (omega (arith, e))

not_there : {X : Type 0} (x : X) → None ≡ Some x → ⊥
not_there x e = none-some x e

not_free : {X : Type 0} (x : X) → Some (Some x) ≡ Some None → ⊥
not_free x e = none-some x (sym (same_Some (Some x) None e))

held_at : (old new : List (Option JobResult)) (f : SearchedJob) (o : Option (Option JobResult)) → slice_get old f.job ≡ o → Puts old new f → (job : ℕ)
    → held new job ≤ held old job + cond (nat_eq f.job job) 1 0
held_at old new f None is puts job = let e = ap (λ (l : List (Option JobResult)). held l job) (puts.dropped (λ k. not_there None (sym is ∙ k))) in omega (arith, e)
held_at old new f (Some (Some had)) is puts job = let e = ap (λ (l : List (Option JobResult)). held l job) (puts.dropped (λ k. not_free had (sym is ∙ k))) in omega (arith, e)
held_at old new f (Some None) is puts job = dite (ℕ_discrete job f.job)
    (λ same.
    (let one : ◌≡◌ {A = ℕ} (cond (nat_eq f.job job) 1 0) 1 = subst (λ (n : ℕ). ◌≡◌ {A = ℕ} (cond (nat_eq f.job n) 1 0) 1) (sym same) (own_one f.job) in
    omega (arith, one, held_most (slice_get new job))))
    (λ other.
    (let p = puts.put is in
    let e = ap held_in (ap (λ (l : List (Option JobResult)). slice_get l job) p.2 ∙ get_set_other old f.job job (Some (kept_of p.0 f.end)) other) in
    omega (arith, e)))

-- a job that has a result after one was put had one before, or it is that result's
held_put : (old new : List (Option JobResult)) (f : SearchedJob) → Puts old new f → (job : ℕ) → held new job ≤ held old job + cond (nat_eq f.job job) 1 0
held_put old new f puts job = held_at old new f (slice_get old f.job) refl puts job

-- with one result fewer to put, no more jobs have results or are left
pub held_fewer : (old new : List (Option JobResult)) (f : SearchedJob) (left less : List SearchedJob) → left ≡ less ++ f ∷ [] → Puts old new f → (job most : ℕ) → held old job + times job left ≤ most
    → held new job + times job less ≤ most
held_fewer old new f left less is puts job most was =
    let e = ap (times job) is in
    omega (arith, e, was, held_put old new f puts job, sum_by_push (λ (g : SearchedJob). cond (nat_eq g.job job) 1 0) less f)

-- and where no job comes twice, what is counted and what is left to count stay the same together
pub spent_fewer : (old new : ResultsSoFar) (f : SearchedJob) (left less : List SearchedJob) (all : ℕ) → left ≡ less ++ f ∷ [] → held old.ends f.job + times f.job left ≤ 1 → Notes old new f
    → spent_in_all old.spent + spent_on left ≡ all → spent_in_all new.spent + spent_on less ≡ all
spent_fewer old new f left less all is apart notes was =
    let e = ap (times f.job) is in
    let s = ap spent_on is in
    let none : held old.ends f.job ≡ 0 = omega (arith, e, apart, own_one f.job, sum_by_push (λ (g : SearchedJob). cond (nat_eq g.job f.job) 1 0) less f) in
    let put = notes.put (free_held (slice_get old.ends f.job) none) in
    omega (arith, s, was, put, sum_by_push (λ (g : SearchedJob). g.spent) less f)

-- ---- the same with what workers handed back

pub held_backs : (old new : List (Option JobResult)) (back : HandedBack) (left less : List HandedBack) → left ≡ less ++ back ∷ []
    → ((job : ℕ) → held new job ≤ held old job + times job back.searched.items) → (job most : ℕ)
    → held old job + sum_by (λ (b : HandedBack). times job b.searched.items) left ≤ most → held new job + sum_by (λ (b : HandedBack). times job b.searched.items) less ≤ most
held_backs old new back left less is put job most was =
    let e = ap (sum_by (λ (b : HandedBack). times job b.searched.items)) is in
    omega (arith, e, was, put job, sum_by_push (λ (b : HandedBack). times job b.searched.items) less back)

-- what one worker handed back is apart where all are
pub back_apart : (ends : List (Option JobResult)) (back : HandedBack) (left less : List HandedBack) → left ≡ less ++ back ∷ []
    → ((job : ℕ) → held ends job + sum_by (λ (b : HandedBack). times job b.searched.items) left ≤ 1) → AreApart ends back.searched.items
back_apart ends back left less is was job =
    let e = ap (sum_by (λ (b : HandedBack). times job b.searched.items)) is in
    omega (arith, e, was job, sum_by_push (λ (b : HandedBack). times job b.searched.items) less back)

pub spent_backs : (old new all : ℕ) (back : HandedBack) (left less : List HandedBack) → left ≡ less ++ back ∷ [] → new ≡ old + spent_on back.searched.items → old + spent_by_all left ≡ all
    → new + spent_by_all less ≡ all
spent_backs old new all back left less is put was =
    let e = ap spent_by_all is in
    omega (arith, e, put, was, sum_by_push (λ (b : HandedBack). spent_on b.searched.items) less back)
