-- Leave to expand, node by node, which may end.
use Rattle.std.specs.Prelude.{◌≡◌, ℕ, ◌+◌, Bool, true, false}
use Rattle.tt_search.specs.declared.limits.Step.{Step}
use Rattle.tt_search.specs.declared.limits.Step.TheVariants.{Expanded, Closed, Settled, Stuck}
use Rattle.tt_search.specs.declared.limits.Reason.TheVariants.{Budget, Depth, Total, Memory}

-- how many asks were granted, and whether one was refused
pub record GrantTally : Type 0 where
  pub granted : ℕ
  pub refused : Bool

-- what each answer of an ask says: a grant counts as one more, and comes only where none was refused before; a refusal leaves
-- the count, and from then on every ask is refused
abbrev pub IsAnswerToAsk : GrantTally → Bool → GrantTally → Type 0
IsAnswerToAsk old true new = (old.refused ≡ false) × (new ≡ record { granted = old.granted + 1; refused = false })
IsAnswerToAsk old false new = new ≡ record { granted = old.granted; refused = true }

-- what a step asks: once where it expands, and that is granted; once where it is stuck for the total, and that is refused; and
-- nothing else
abbrev pub IsAskOfStep : GrantTally → Step → GrantTally → Type 0
IsAskOfStep old Expanded new = IsAnswerToAsk old true new
IsAskOfStep old Closed new = new ≡ old
IsAskOfStep old Settled new = new ≡ old
IsAskOfStep old (Stuck Budget) new = new ≡ old
IsAskOfStep old (Stuck Depth) new = new ≡ old
IsAskOfStep old (Stuck Total) new = IsAnswerToAsk old false new
IsAskOfStep old (Stuck Memory) new = new ≡ old
