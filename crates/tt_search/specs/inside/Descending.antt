-- What a descent may use, and what it leaves. For private contracts and proofs.
use Rattle.std.specs.Prelude.{◌≡◌, ◌+◌, ◌^◌, ◌<◌, ◌≤◌}
use Rattle.tt_proof.specs.declared.tree.TheConstants.{MOST_DEPTH}
use Rattle.tt_search.specs.PartialTree.{PartialTree}
use Rattle.tt_search.specs.Grants.{GrantTally}
use Rattle.tt_search.specs.inside.Asking.{AreAsked}
use Rattle.tt_search.specs.inside.Walking.{stand_of, MayGrow}
use Rattle.tt_search.specs.declared.limits.Step.{Step}
use Rattle.tt_search.specs.declared.limits.Step.TheVariants.{Closed}
use Rattle.tt_search.specs.declared.descent.StopAfter.{StopAfter}
use Rattle.tt_search.specs.declared.descent.Descent.{Descent}

-- the tree may grow where the walk stands, and what the budget has left may still be granted
pub record MayDescend (walk : Descent) (tree : PartialTree) (asked : GrantTally) : Type 0 where
  pub may_grow : MayGrow (stand_of walk) tree
  pub room : walk.room ≤ MOST_DEPTH
  pub grants : asked.granted + walk.left < 2 ^ 64

-- after the steps of a descent the walk stands where it stood, what the budget has lost was granted, and a leaf is closed only where the store may
-- answer
pub record Descends {G Source : Type 0} (asked : G → GrantTally) (source : G
    → Source) (may_answer : Type 0) (stop : StopAfter) (walk : Descent) (old : G) (step : Step) (after : Descent) (new : G) : Type 0 where
  pub line : after.line ≡ walk.line
  pub room : after.room ≡ walk.room
  pub may : step ≡ Closed → may_answer
  pub granted : (asked new).granted + after.left ≡ (asked old).granted + walk.left
  pub asked_for : AreAsked stop (asked old) step (asked new)
  pub source_stays : source new ≡ source old
