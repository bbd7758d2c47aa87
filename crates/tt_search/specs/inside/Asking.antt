-- What steps together ask for. For private contracts and proofs.
use Rattle.std.specs.Prelude.{◌≡◌}
use Rattle.tt_search.specs.Grants.{GrantTally, IsAskOfStep}
use Rattle.tt_search.specs.declared.limits.Step.{Step}
use Rattle.tt_search.specs.declared.descent.StopAfter.{StopAfter}
use Rattle.tt_search.specs.declared.descent.StopAfter.TheVariants.{OneStep}

-- all asks but those of the last step are granted; where it stops after one step there is no other step
pub record AreAsked (stop : StopAfter) (old : GrantTally) (step : Step) (new : GrantTally) : Type 0 where
  pub before : GrantTally
  pub granted : before.refused ≡ old.refused
  pub one : stop ≡ OneStep → before ≡ old
  pub asked : IsAskOfStep before step new
