-- What `check` writes for an input: one line on the certificate that follows the first tree.
use Rattle.std.specs.Prelude.{◌≡◌, ◌<◌, ◌≤◌, ℕ, Bool, true, false, List, [], ◌∷◌, ◌++◌, length, drop, codes, decimal, Some, None, Ok, Err}
use Rattle.std.specs.declared.result.Result.{Result}
use Rattle.tt_sgf.specs.Bytes.{newline}
use Rattle.tt_sgf.specs.declared.trees.TheConstants.{MAX_BYTES}
use Rattle.tt_sgf.specs.Grammar.{GameTree, HasNoTree, FirstTreeEndsAt, main_line}
use Rattle.tt_sgf.specs.Values.{trimmed}
use Rattle.tt_game.specs.declared.faults.GameFault.{GameFault}
use Rattle.tt_game.specs.declared.frame.Side.{Side}
use Rattle.tt_game.specs.Faults.{code_of}
use Rattle.tt_game.specs.Line.{LineWithUndo}
use Rattle.tt_game.specs.Problems.{problem_of}
use Rattle.tt_proof.specs.declared.certificate_read.CertFault.TheVariants.{Syntax, TooDeep}
use Rattle.tt_proof.specs.declared.tree.TheConstants.{MOST_DEPTH}
use Rattle.tt_parts.specs.SharedCertFaults.{IsSharedCertFault}
use Rattle.tt_proof.specs.CertificateText.{IsCertificate, IsTooDeep}
use Rattle.tt_parts.specs.Outlines.{Outline, IsSharedCertificate, unfolded}
use Rattle.tt_parts.specs.SharedParts.{IsOutlineAnswer}
use Rattle.tt_proof.specs.Strategy.{Strategy}
use Rattle.tt_proof.specs.Wins.{Wins, WinsOrLives}
use Rattle.tt_text.specs.declared.checking.CheckOutcome.{CheckOutcome}
use Rattle.tt_text.specs.declared.checking.CheckOutcome.TheVariants.{Valid, Invalid, Refused}

-- What is found on bytes at a problem: a turn lies too deep; or they are no certificate; or they are one, and its tree
-- wins at the problem or doesn't.
pub data FindsPlain (p : LineWithUndo) (bytes : List ℕ) : CheckOutcome → Type 0 where
  too_deep : IsTooDeep p.frame.size bytes → FindsPlain p bytes (Refused 31)
  no_certificate : (IsTooDeep p.frame.size bytes → ⊥) → ((side : Side) (u : Strategy) → IsCertificate p.frame.size bytes side u → ⊥)
      → FindsPlain p bytes (Refused 30)
  wins : (side : Side) (u : Strategy) → (IsTooDeep p.frame.size bytes → ⊥) → IsCertificate p.frame.size bytes side u
      → Wins side p.frame u p.state → FindsPlain p bytes Valid
  loses : (side : Side) (u : Strategy) → (IsTooDeep p.frame.size bytes → ⊥) → IsCertificate p.frame.size bytes side u
      → (Wins side p.frame u p.state → ⊥) → FindsPlain p bytes Invalid

-- What is found on bytes at a problem where parts may be shared: they are a certificate with shared parts, and a part of it
-- doesn't fit, or its tree, which may end at life, wins at the problem or doesn't; or they are none.
pub data FindsShared (p : LineWithUndo) (bytes : List ℕ) : CheckOutcome → Type 0 where
  unread : IsSharedCertFault p.frame.size MOST_DEPTH bytes Syntax → FindsShared p bytes (Refused 30)
  goes_deep : IsSharedCertFault p.frame.size MOST_DEPTH bytes TooDeep → FindsShared p bytes (Refused 31)
  unfit : (side : Side) (o : Outline) → IsSharedCertificate p.frame.size bytes side o → IsOutlineAnswer side p.frame o p.state None
      → FindsShared p bytes (Refused 32)
  shared_wins : (side : Side) (o : Outline) → IsSharedCertificate p.frame.size bytes side o → IsOutlineAnswer side p.frame o p.state (Some true)
      → WinsOrLives side p.frame (unfolded [] o) p.state → FindsShared p bytes Valid
  shared_loses : (side : Side) (o : Outline) → IsSharedCertificate p.frame.size bytes side o → IsOutlineAnswer side p.frame o p.state (Some false)
      → (WinsOrLives side p.frame (unfolded [] o) p.state → ⊥) → FindsShared p bytes Invalid

-- the one or the other, as parts are asked for
abbrev pub FindsPlainOrShared : Bool → LineWithUndo → List ℕ → CheckOutcome → Type 0
FindsPlainOrShared true = FindsShared
FindsPlainOrShared false = FindsPlain

-- the same, where the problem may be refused before
abbrev pub FindsOnProblem : Bool → Result LineWithUndo GameFault → List ℕ → CheckOutcome → Type 0
FindsOnProblem parts (Ok p) bytes o = FindsPlainOrShared parts p bytes o
FindsOnProblem parts (Err e) bytes o = o ≡ Refused (code_of e)

-- What is found on the whole input: it is too long; or it has no tree; or the first tree is the problem, and what follows it,
-- without the white space at both ends, is to be the certificate.
pub data Finds (parts : Bool) (input : List ℕ) : CheckOutcome → Type 0 where
  too_long : MAX_BYTES < length input → Finds parts input (Refused 2)
  no_tree : length input ≤ MAX_BYTES → HasNoTree input → Finds parts input (Refused 1)
  first_tree : (count : ℕ) (t : GameTree) (o : CheckOutcome) → length input ≤ MAX_BYTES → FirstTreeEndsAt input count t
      → FindsOnProblem parts (problem_of (main_line t)) (trimmed (drop count input)) o → Finds parts input o

-- the line on a finding; a newline ends it
abbrev pub check_line : CheckOutcome → List ℕ
check_line Valid = codes "valid" ++ newline ∷ []
check_line Invalid = codes "invalid" ++ newline ∷ []
check_line (Refused code) = codes "refused " ++ (decimal code ++ newline ∷ [])

-- the exit status: 0 where the certificate is valid
abbrev pub check_status : CheckOutcome → ℕ
check_status Valid = 0
check_status Invalid = 1
check_status (Refused code) = 1

-- the text is the line on what is found
pub record IsCheckText (parts : Bool) (input text : List ℕ) (status : ℕ) : Type 0 where
  pub finding : CheckOutcome
  pub finds : Finds parts input finding
  pub line : text ≡ check_line finding
  pub status_is : status ≡ check_status finding
