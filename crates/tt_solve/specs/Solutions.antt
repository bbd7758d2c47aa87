-- What is found of a problem: its value with a first turn and a certificate, or why that isn't known; and the value behind each legal turn.
use Rattle.std.specs.Prelude.{◌≡◌, ◌≢◌, ◌≤◌, ℕ, Bool, true, false, List, [], ◌∷◌, Option, Some, None, Ok, Err}
use Rattle.std.specs.declared.result.Result.{Result}
use Rattle.tt_game.specs.declared.frame.Side.{Side}
use Rattle.tt_game.specs.declared.turns.Turn.{Turn}
use Rattle.tt_game.specs.Game.{HasValue, IsLegal, after, value_won_by}
use Rattle.tt_game.specs.Line.{LineWithUndo, problem_after_turn}
use Rattle.tt_game.specs.Turns.{legal_turns}
use Rattle.tt_proof.specs.CertificateText.{IsCertificate}
use Rattle.tt_proof.specs.ProofClaim.{first_turn_of}
use Rattle.tt_parts.specs.SharedWins.{IsWinningSharedCertificate}
use Rattle.tt_proof.specs.Strategy.{Strategy, depth}
use Rattle.tt_proof.specs.Wins.{Wins}
use Rattle.tt_search.specs.declared.limits.Limits.{Limits}
use Rattle.tt_search.specs.declared.limits.Reason.{Reason}
use Rattle.tt_search.specs.declared.limits.Reason.TheVariants.{Budget, Depth, Total, Memory}
use Rattle.tt_search.specs.SearchState.{SearchState}
use Rattle.tt_share.specs.Answers.{IsSpent, IsStuckAfter, IsWithinTotal}
use Rattle.tt_solve.specs.declared.options.CertKind.{CertKind}
use Rattle.tt_solve.specs.declared.options.CertKind.TheVariants.{Unasked, Plain, Shared}
use Rattle.tt_solve.specs.declared.options.Options.{Options}
use Rattle.tt_solve.specs.declared.solution.Solution.{Solution}
use Rattle.tt_solve.specs.declared.solution.Solution.TheVariants.{Settled, Unsettled}
use Rattle.tt_solve.specs.declared.solution.Solved.{Solved}
use Rattle.tt_solve.specs.Totals.{HoldsByGrants, total_left}

-- ---- a problem

-- the first turn is shown exactly where the winner is to move; it is legal, and keeps the value
abbrev pub IsFirstTurnOfWinner : LineWithUndo → Side → Option Turn → Type 0
IsFirstTurnOfWinner p side None = p.state.to_move ≢ side
IsFirstTurnOfWinner p side (Some t) =
    (p.state.to_move ≡ side) × IsLegal p.frame p.state t × HasValue p.frame (after p.frame p.state t) (value_won_by side)

-- the bytes are the certificate of a strategy that wins for the side, within the limit on depth, and begins with that turn
pub record IsWinningCertificate (p : LineWithUndo) (limits : Limits) (side : Side) (first : Option Turn) (bytes : List ℕ) : Type 0 where
  pub strategy : Strategy
  pub is : IsCertificate p.frame.size bytes side strategy
  pub wins : Wins side p.frame strategy p.state
  pub shallow : depth strategy ≤ limits.depth
  pub begins : first ≡ first_turn_of strategy

-- no certificate where none is asked for, and else one that wins, of the kind that is asked for
abbrev pub IsCertificateAsked : LineWithUndo → Limits → Side → Option Turn → CertKind → Option (List ℕ) → Type 0
IsCertificateAsked p limits side first Unasked None = Unit {0}
IsCertificateAsked p limits side first Plain (Some bytes) = IsWinningCertificate p limits side first bytes
IsCertificateAsked p limits side first Shared (Some bytes) = IsWinningSharedCertificate p.frame p.state side first limits.depth bytes
IsCertificateAsked p limits side first cert c = ⊥

-- behind some legal turn the search is stuck for the reason, and the lesser turns lose; the count of this search and those of grown
-- searches behind the other legal turns add up to no more than the total, where there is one; it is stuck for the total only where
-- they add up to just that; of memory nothing is said
abbrev pub IsUnsettledFor : LineWithUndo → Limits → Option ℕ → Reason → Type 0
IsUnsettledFor p limits total Budget = (t : Turn) × (search : SearchState) × IsStuckAfter p limits Budget t search × IsWithinTotal p limits total t search
IsUnsettledFor p limits total Depth = (t : Turn) × (search : SearchState) × IsStuckAfter p limits Depth t search × IsWithinTotal p limits total t search
IsUnsettledFor p limits total Total = (n : ℕ) × (total ≡ Some n) × (t : Turn) × (search : SearchState) × (spent : List (Turn × ℕ))
    × IsStuckAfter p limits Total t search × IsSpent p limits n t search spent
IsUnsettledFor p limits total Memory = Unit {0}

-- the side has the value, and its first turn and its certificate are so
abbrev pub IsDecided : LineWithUndo → Limits → CertKind → Solution → Type 0
IsDecided p limits cert (Settled side first certificate) =
    HasValue p.frame p.state (value_won_by side) × IsFirstTurnOfWinner p side first × IsCertificateAsked p limits side first cert certificate
IsDecided p limits cert (Unsettled reason) = ⊥

-- the problem is decided; or a search is stuck for the reason
abbrev pub IsSolution : LineWithUndo → Limits → Option ℕ → CertKind → Solution → Type 0
IsSolution p limits total cert (Settled side first certificate) = IsDecided p limits cert (Settled side first certificate)
IsSolution p limits total cert (Unsettled reason) = IsUnsettledFor p limits total reason

-- ---- the positions behind its turns

-- the side that wins, or why that isn't known
abbrev pub value_of : Solution → Result Side Reason
value_of (Settled side first certificate) = Ok side
value_of (Unsettled reason) = Err reason

-- the side has the value, or a search is stuck for the reason
abbrev pub IsValueOrReason : LineWithUndo → Limits → Option ℕ → Result Side Reason → Type 0
IsValueOrReason p limits total (Ok side) = HasValue p.frame p.state (value_won_by side)
IsValueOrReason p limits total (Err reason) = IsUnsettledFor p limits total reason

-- for each of the turns the value behind it, or why that isn't known under the same limits. The turns share the total: each has what
-- those before it left, and the last leaves so much
abbrev pub AreTurnValues : LineWithUndo → Limits → Option ℕ → Option ℕ → List Turn → List (Turn × Result Side Reason) → Type 0
AreTurnValues p limits total left [] values = (left ≡ total) × (values ≡ [])
AreTurnValues p limits total left (t ∷ ts) values = (granted : ℕ) × (value : Result Side Reason) × (rest : List (Turn × Result Side Reason))
    × HoldsByGrants (problem_after_turn p t) limits (λ n. IsValueOrReason (problem_after_turn p t) limits n value) total granted
    × (values ≡ (t, value) ∷ rest) × AreTurnValues p limits (total_left total granted) left ts rest

-- nothing, or the values of all legal turns, in rising order, where they are asked for
abbrev pub AreTurnValuesAsked : LineWithUndo → Limits → Option ℕ → Bool → List (Turn × Result Side Reason) → Type 0
AreTurnValuesAsked p limits total false values = values ≡ []
AreTurnValuesAsked p limits total true values = (left : Option ℕ) × AreTurnValues p limits total left (legal_turns p.frame p.state) values

-- the problem is solved, and its turns have what it left of the total; which engine found it, and how many workers it had, has no part in it
abbrev pub IsSolved : Options → LineWithUndo → Solved → Type 0
IsSolved options p s = (granted : ℕ) × HoldsByGrants p options.limits (λ n. IsSolution p options.limits n options.cert s.solution) options.total granted
    × AreTurnValuesAsked p options.limits (total_left options.total granted) options.turns s.turn_values.items
