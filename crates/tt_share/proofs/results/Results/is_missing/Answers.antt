use Rattle.std.proofs.Common.{◌≡◌, ◌↔◌, ◌∙◌, ◌<◌, IsTrue, false, List, Option, Some, None, slice_get, length, ap, subst}
use Rattle.tt_share.specs.declared.jobs.JobResult.{JobResult}
use Rattle.tt_share.specs.inside.Results.{ResultsSoFar, HasResult}
use Rattle.tt_share.proofs.results.Results.is_missing.Goals as goal

pub returns-clause-free : goal.returns-clause-free
returns-clause-free c =
    let ends = c.as_slice.ensures.value ∙ ap (λ (p : ResultsSoFar). p.ends) c.self.view_is in
    subst (λ (l : List (Option JobResult)). IsTrue c.is_missing_in.result ↔ (slice_get l c.args.job ≡ Some None)) ends c.is_missing_in.ensures.free

pub returns-clause-filled : goal.returns-clause-filled
returns-clause-filled c =
    let ends = c.as_slice.ensures.value ∙ ap (λ (p : ResultsSoFar). p.ends) c.self.view_is in
    subst (λ (l : List (Option JobResult)). c.is_missing_in.result ≡ false → c.args.job < length l → HasResult l c.args.job) ends c.is_missing_in.ensures.filled
