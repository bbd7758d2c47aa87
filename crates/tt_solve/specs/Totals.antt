-- What holds within a total, and what is left of that.
use Rattle.std.specs.Prelude.{◌≡◌, ◌≤◌, ◌-◌, ◌⊎◌, ℕ, Option, Some, None, IfSome}
use Rattle.tt_game.specs.Line.{LineWithUndo}
use Rattle.tt_search.specs.declared.limits.Limits.{Limits}
use Rattle.tt_share.specs.Answers.{IsExpandedInAll}

-- a total, where there is one, has so many grants
abbrev pub HasGrants : Option ℕ → ℕ → Type 0
HasGrants total granted = IfSome total (λ n. granted ≤ n)

-- what is left of it behind so many grants
abbrev pub total_left : Option ℕ → ℕ → Option ℕ
total_left None granted = None
total_left (Some total) granted = Some (total - granted)

-- so many grants as a total of their own, where there is a total
abbrev pub total_granted : Option ℕ → ℕ → Option ℕ
total_granted None granted = None
total_granted (Some total) granted = Some granted

-- It holds of a problem within the total, of which so many expansions were granted, and within these as a total of their own. So a search
-- that is stuck has expanded no more than these, and one that is stuck for the total is so only where these are all of it
pub record HoldsByGrants (p : LineWithUndo) (limits : Limits) (Within : Option ℕ → Type 0) (total : Option ℕ) (granted : ℕ) : Type 0 where
  pub granted_of : HasGrants total granted
  -- none were, or as many as searches behind the legal turns expanded nodes
  pub counted : (granted ≡ 0) ⊎ IsExpandedInAll p limits granted
  pub within : Within total
  pub by_grants : Within (total_granted total granted)

-- it holds by some grants, behind which so much is left of the total
abbrev pub HoldsLeaving : LineWithUndo → Limits → (Option ℕ → Type 0) → Option ℕ → Option ℕ → Type 0
HoldsLeaving p limits Within total left = (granted : ℕ) × HoldsByGrants p limits Within total granted × (left ≡ total_left total granted)
