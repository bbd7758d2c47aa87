use Rattle.std.proofs.Common.{ℕ, ◌<◌}
use Rattle.tt_share.specs.declared.jobs.JobResult.{JobResult}
use Rattle.tt_share.specs.inside.Jobs.{IsStuckOrWon}
use Rattle.tt_share.specs.inside.Results.{HasEnd, IsWinAt}
use Rattle.tt_share.proofs.results.least_win_in.Given as goal

abbrev pub invariant-loop-job : goal.invariant-loop-job
invariant-loop-job l = record {
  lost : (k : ℕ) → k < l.job → ¬ IsWinAt l.side l.ends k;
  won : (k : ℕ) → k < l.job → (end : JobResult) → HasEnd l.ends k end → IsStuckOrWon end;
}
