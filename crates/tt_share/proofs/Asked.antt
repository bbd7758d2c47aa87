-- What is asked for while results are put.
use Rattle.std.proofs.Common.{◌≡◌, inl, inr, Bool, true, false, Option, Some, None, slice_get, refl, sym, ap, subst, ◌∙◌, arith, List}
use Rattle.std.proofs.lemmas.Option.{same_Some}
use Rattle.tt_search.specs.Grants.{GrantTally}
use Rattle.tt_share.specs.declared.jobs.JobResult.{JobResult}
use Rattle.tt_share.specs.declared.jobs.JobResult.TheVariants as result
use Rattle.tt_share.specs.declared.jobs.SearchedJob.{SearchedJob}
use Rattle.tt_share.specs.inside.Jobs.{IsForTotal, AsksFor, end_of, kept_of}
use Rattle.tt_share.specs.inside.Results.{ResultsSoFar, AskedFor, Puts, Notes}
use Rattle.tt_share.proofs.ResultLemmas.{read_after}

-- what is kept as stuck for the total was so
pub total_kept : (past : Bool) (end : JobResult) → IsForTotal (end_of (kept_of past end)) → IsForTotal (end_of end)
total_kept false end h = h
total_kept true (result.Settled p) h = h
total_kept true (result.Stuck reason search) h = absurd h
total_kept true result.Dropped h = h
total_kept true result.NoMemory h = h

-- a result of a job that had none, with what was asked for it
pub asked_put : (old new : ResultsSoFar) (f : SearchedJob) (before after : GrantTally) → slice_get old.ends f.job ≡ Some None → Puts old.ends new.ends f → Notes old new f
    → AsksFor before f.spent (end_of f.end) after
    → AskedFor old before new after
asked_put old new f before after free puts notes asks = record {
  spent = let s = notes.put free in let g = asks.granted in omega (arith, s, g);
  refused = λ h. (
      let p = puts.put free in
      let read = ap (λ (l : List (Option JobResult)). slice_get l h.0) (sym p.2) ∙ h.2 in
      elim (read_after old.ends f.job h.0 (Some (kept_of p.0 f.end)) (Some h.1) read) [
        | inl k ↦ inr (asks.refused (total_kept p.0 f.end (subst (λ (x : JobResult). IsForTotal (end_of x)) (sym (same_Some (kept_of p.0 f.end) h.1 k.1)) h.3)))
        | inr k ↦ inl (h.0, h.1, k, h.3)
      ]);
  still = asks.still;
}

-- where nothing is put nothing is asked for
pub asked_nothing : (p : ResultsSoFar) (asked : GrantTally) → AskedFor p asked p asked
asked_nothing p asked = record { spent = refl; refused = λ h. inl h; still = λ e. e }

-- what is asked for in two parts
pub asked_twice : (a b c : ResultsSoFar) (x y z : GrantTally) → AskedFor a x b y → AskedFor b y c z → AskedFor a x c z
asked_twice a b c x y z first second = record {
  spent = let s = first.spent in let t = second.spent in omega (arith, s, t);
  refused = λ h. elim (second.refused h) [
    | inl k ↦ elim (first.refused k) [
      | inl m ↦ inl m
      | inr m ↦ inr (second.still m)
    ]
    | inr k ↦ inr k
  ];
  still = λ e. second.still (first.still e);
}
