use Rattle.std.proofs.Common.{◌≡◌, ℕ, ◌<◌, ◌≤◌, vec_len, slice_get}
use Rattle.tt_share.specs.inside.Results.{HaveLost, IsStuckAt}
use Rattle.tt_share.proofs.results.Results.conclude.Given as goal

abbrev pub invariant-loop-job : goal.invariant-loop-job
invariant-loop-job l = record {
  lost : HaveLost l.fn.self.line l.fn.self.limits l.children.items;
  noted : vec_len l.children ≡ l.job;
  len : vec_len l.ends ≡ vec_len l.initial.ends;
  same : (k : ℕ) → l.job ≤ k → slice_get l.ends.items k ≡ slice_get l.initial.ends.items k;
  unstuck : (k : ℕ) → k < l.job → ¬ IsStuckAt l.fn.self.ends k;
}
