-- What descents leave.
use Rattle.std.proofs.Common.{◌≡◌, ◌+◌, ◌∙◌, refl, subst}
use Rattle.tt_search.specs.Grants.{GrantTally, IsAskOfStep}
use Rattle.tt_search.specs.inside.Asking.{AreAsked}
use Rattle.tt_search.specs.inside.Descending.{Descends}
use Rattle.tt_search.specs.declared.limits.Step.{Step}
use Rattle.tt_search.specs.declared.descent.StopAfter.{StopAfter}
use Rattle.tt_search.specs.declared.descent.StopAfter.TheVariants.{OneStep}
use Rattle.tt_search.specs.declared.descent.Descent.{Descent}
use Rattle.tt_search.proofs.Asking.{IsGranted, asked_once, asked_last}

-- where it stops after one step there is no other step
pub asked_by : (old new : GrantTally) (step : Step) → AreAsked OneStep old step new → IsAskOfStep old step new
asked_by old new step h = subst (λ before. IsAskOfStep before step new) (h.one refl) h.asked

module _ {G Source : Type 0} (asked : G → GrantTally) (source : G → Source) (may_answer : Type 0) where
  -- one step goes at any pace
  pub any_stop : (stop : StopAfter) (walk : Descent) (old : G) (step : Step) (after : Descent) (new : G)
      → Descends asked source may_answer OneStep walk old step after new → Descends asked source may_answer stop walk old step after new
  any_stop stop walk old step after new h = record {
    line = h.line;
    room = h.room;
    may = h.may;
    granted = h.granted;
    asked_for = asked_once stop (asked old) (asked new) step (asked_by (asked old) (asked new) step h.asked_for);
    source_stays = h.source_stays;
  }

  -- the last of some descents at a walk, where none of those before was refused
  pub last_of : (stop : StopAfter) (first walk : Descent) (old now : G) (step : Step) (after : Descent) (new : G)
      → walk.line ≡ first.line → walk.room ≡ first.room → (asked now).granted + walk.left ≡ (asked old).granted + first.left → source now ≡ source old
      → IsGranted stop (asked old) (asked now) → Descends asked source may_answer stop walk now step after new → Descends asked source may_answer stop first old step after new
  last_of stop first walk old now step after new line room granted same far h = record {
    line = h.line ∙ line;
    room = h.room ∙ room;
    may = h.may;
    granted = h.granted ∙ granted;
    asked_for = asked_last stop (asked old) (asked now) (asked new) step far h.asked_for;
    source_stays = h.source_stays ∙ same;
  }
