-- How a search goes on: one step, or some steps together. For private contracts and proofs.
use Rattle.std.specs.Prelude.{◌≡◌}
use Rattle.tt_search.specs.SearchState.{SearchState, IsStepOf}
use Rattle.tt_search.specs.RunEnds.{HasRunTo}
use Rattle.tt_search.specs.declared.limits.Step.{Step}
use Rattle.tt_search.specs.declared.descent.StopAfter.{StopAfter}
use Rattle.tt_search.specs.declared.descent.StopAfter.TheVariants.{OneStep}

-- growths lead to a search, and a step of that one is the last; where it stops after one step it is the only one
pub record IsAdvanced (stop : StopAfter) (old : SearchState) (step : Step) (new : SearchState) : Type 0 where
  pub before : SearchState
  pub reached : HasRunTo old before
  pub one : stop ≡ OneStep → before ≡ old
  pub taken : IsStepOf before step new
