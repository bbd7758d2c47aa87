use Rattle.std.proofs.Common.{ℕ, ◌<◌}
use Rattle.tt_share.specs.inside.Results.{IsStuckAt}
use Rattle.tt_share.proofs.results.is_some_lesser_stuck.Given as goal

abbrev pub invariant-loop-lesser : goal.invariant-loop-lesser
invariant-loop-lesser l = (k : ℕ) → k < l.lesser → ¬ IsStuckAt l.ends k
