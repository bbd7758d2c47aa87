-- What is left of a total.
use Rattle.std.proofs.Common.{◌≡◌, ◌≤◌, ℕ, Option, Some, None, IfSome, MatchOption, inl, inr, refl, ap, arith, zero-le}
use Rattle.std.proofs.lemmas.Option.{same_Some}
use Rattle.tt_game.specs.Line.{LineWithUndo}
use Rattle.tt_search.specs.declared.limits.Limits.{Limits}
use Rattle.tt_search.specs.declared.limits.Reason.TheVariants.{Budget, Depth, Total, Memory}
use Rattle.tt_share.specs.Answers.{IsExpandedInAll}
use Rattle.tt_solve.specs.declared.options.CertKind.{CertKind}
use Rattle.tt_solve.specs.declared.solution.Solution.{Solution}
use Rattle.tt_solve.specs.declared.solution.Solution.TheVariants.{Settled, Unsettled}
use Rattle.tt_solve.specs.Solutions.{IsSolution}
use Rattle.tt_solve.specs.Totals.{HasGrants, HoldsByGrants, HoldsLeaving, total_left, total_granted}

-- a total has no grants, and all is left
has_none : (total : Option ℕ) → HasGrants total 0
has_none None = tt
has_none (Some total) = zero-le

all_left : (total : Option ℕ) → total ≡ total_left total 0
all_left None = refl
all_left (Some total) = ap Some (omega arith)

module _ (p : LineWithUndo) (limits : Limits) where
  -- what is within each total, is so without a grant
  by_none : (Within : Option ℕ → Type 0) (total : Option ℕ) → ((t : Option ℕ) → Within t) → HoldsByGrants p limits Within total 0
  by_none Within total is = record { granted_of = has_none total; counted = inl refl; within = is total; by_grants = is (total_granted total 0) }

  -- with all left
  pub leaves_all : (Within : Option ℕ → Type 0) (total : Option ℕ) → ((t : Option ℕ) → Within t) → HoldsLeaving p limits Within total total
  leaves_all Within total is = (0, by_none Within total is, all_left total)

  -- what is within a total, and within what was granted of it
  pub counted : (Within : Option ℕ → Type 0) (total : Option ℕ) (granted : ℕ) → Within total → MatchOption total (granted ≡ 0) (λ n. (granted ≤ n) × Within (Some granted))
      → IfSome total (λ _. IsExpandedInAll p limits granted) → HoldsByGrants p limits Within total granted
  counted Within None granted is more counts = record { granted_of = tt; counted = inl more; within = is; by_grants = is }
  counted Within (Some n) granted is more counts = record { granted_of = more.0; counted = inr counts; within = is; by_grants = more.1 }

  -- what follows within each total
  pub leaving : (Within Then : Option ℕ → Type 0) (total left : Option ℕ) (granted : ℕ) → HoldsByGrants p limits Within total granted → left ≡ total_left total granted
      → ((t : Option ℕ) → Within t → Then t) → HoldsLeaving p limits Then total left
  leaving Within Then total left granted h e follows =
      (granted, record { granted_of = h.granted_of; counted = h.counted; within = follows total h.within; by_grants = follows (total_granted total granted) h.by_grants }, e)

  -- what a solution says is so by some grants: as many as its searches expanded where it is stuck, and else none
  pub by_some : (cert : CertKind) (s : Solution) (total : Option ℕ) → IsSolution p limits total cert s
      → (granted : ℕ) × HoldsByGrants p limits (λ t. IsSolution p limits t cert s) total granted
  by_some cert (Settled side first certificate) total is = (0, by_none (λ t. IsSolution p limits t cert (Settled side first certificate)) total (λ t. is))
  by_some cert (Unsettled Budget) None is = (0, record { granted_of = tt; counted = inl refl; within = is; by_grants = is })
  by_some cert (Unsettled Budget) (Some n) is = let so = is.3 in (
    so.0,
    record { granted_of = so.3; counted = inr (so.1, so.2.by, so.2.in_all); within = is; by_grants = (is.0, is.1, is.2, (so.0, so.1, so.2, omega arith)) },
  )
  by_some cert (Unsettled Depth) None is = (0, record { granted_of = tt; counted = inl refl; within = is; by_grants = is })
  by_some cert (Unsettled Depth) (Some n) is = let so = is.3 in (
    so.0,
    record { granted_of = so.3; counted = inr (so.1, so.2.by, so.2.in_all); within = is; by_grants = (is.0, is.1, is.2, (so.0, so.1, so.2, omega arith)) },
  )
  by_some cert (Unsettled Memory) total is = (0, by_none (λ t. IsSolution p limits t cert (Unsettled Memory)) total (λ t. is))
  by_some cert (Unsettled Total) None is = (0, record { granted_of = tt; counted = inl refl; within = is; by_grants = is })
  by_some cert (Unsettled Total) (Some n) (m, all, t, search, spent, stuck, spends) = (
    m,
    record {
      granted_of = omega (arith, same_Some n m all);
      counted = inr (spent, spends.by, spends.in_all);
      within = (m, all, t, search, spent, stuck, spends);
      by_grants = (m, refl, t, search, spent, stuck, spends);
    },
  )
