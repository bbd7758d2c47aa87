-- Lemmas on what is found on a certificate.
use Rattle.std.proofs.Common.{◌≡◌, ◌≢◌, ◌≤◌, ◌<◌, ◌-◌, ℕ, Bool, true, false, Some, None, List, [], refl, ap, ◌∙◌, length, take, drop, arith, subst}
use Rattle.std.proofs.lemmas.List.{take_all, length-drop}
use Rattle.tt_sgf.specs.declared.faults.SgfFault.{SgfFault}
use Rattle.tt_sgf.specs.declared.faults.SgfFault.TheVariants as sgf
use Rattle.tt_sgf.specs.declared.trees.TheConstants.{MAX_BYTES}
use Rattle.tt_sgf.specs.declared.nodes.Node.{Node}
use Rattle.tt_sgf.specs.Faults.{code_of as number_of}
use Rattle.tt_sgf.specs.Grammar.{GameTree, HasNoTree, FirstTreeEndsAt, main_line}
use Rattle.tt_sgf.specs.Values.{trimmed}
use Rattle.tt_game.specs.declared.frame.Frame.{Frame}
use Rattle.tt_game.specs.declared.frame.Side.{Side}
use Rattle.tt_game.specs.Line.{LineWithUndo}
use Rattle.tt_game.specs.Problems.{problem_of}
use Rattle.tt_proof.specs.declared.certificate_read.CertFault.{CertFault}
use Rattle.tt_proof.specs.declared.certificate_read.CertFault.TheVariants.{Syntax, TooDeep, NoMemory}
use Rattle.tt_proof.specs.CertificateFaults.{IsCertFault, code_of}
use Rattle.tt_parts.specs.SharedCertFaults.{IsSharedCertFault}
use Rattle.tt_proof.specs.declared.tree.TheConstants.{MOST_DEPTH}
use Rattle.tt_proof.specs.CertificateText.{IsCertificate, IsTooDeep}
use Rattle.tt_parts.specs.Outlines.{Outline, IsSharedCertificate, unfolded}
use Rattle.tt_parts.specs.SharedParts.{IsOutlineAnswer}
use Rattle.tt_proof.specs.Strategy.{Strategy}
use Rattle.tt_proof.specs.Wins.{Wins, WinsOrLives}
use Rattle.tt_text.specs.declared.checking.CheckOutcome.{CheckOutcome}
use Rattle.tt_text.specs.declared.checking.CheckOutcome.TheVariants.{Valid, Invalid, Refused}
use Rattle.tt_text.specs.Checking.{Finds, FindsPlain, FindsOnProblem, FindsShared, first_tree, goes_deep, loses, no_certificate, no_tree, shared_loses, shared_wins}
use Rattle.tt_text.specs.Checking.{too_deep, too_long, unfit, unread, wins}

-- the size of the line's frame is that of its problem
module _ (p : LineWithUndo) (f : Frame) (bytes : List ℕ) (same : f ≡ p.frame) where
  -- a certificate whose tree wins is valid
  pub wins_at : (side : Side) (u : Strategy) → IsCertificate f.size bytes side u × (IsTooDeep f.size bytes → ⊥) → Wins side p.frame u p.state → FindsPlain p bytes Valid
  wins_at side u h w = let k = subst (λ (g : Frame). IsCertificate g.size bytes side u × (IsTooDeep g.size bytes → ⊥)) same h in wins side u k.1 k.0 w

  -- one whose tree doesn't win is invalid
  pub loses_at : (side : Side) (u : Strategy) → IsCertificate f.size bytes side u × (IsTooDeep f.size bytes → ⊥) → (Wins side p.frame u p.state → ⊥) → FindsPlain p bytes Invalid
  loses_at side u h w = let k = subst (λ (g : Frame). IsCertificate g.size bytes side u × (IsTooDeep g.size bytes → ⊥)) same h in loses side u k.1 k.0 w

  -- bytes that are no certificate, or have a turn that lies too deep, are refused
  pub refused_at : (e : CertFault) → e ≢ NoMemory → IsCertFault f.size bytes e → FindsPlain p bytes (Refused (code_of e))
  refused_at Syntax known h = let k = subst (λ (g : Frame). IsCertFault g.size bytes Syntax) same h in no_certificate k.1 k.0
  refused_at TooDeep known h = too_deep (subst (λ (g : Frame). IsCertFault g.size bytes TooDeep) same h)
  refused_at NoMemory known h = absurd (known refl)

  -- so it is with parts that may be shared
  pub shared_refused_at : (e : CertFault) → e ≢ NoMemory → IsSharedCertFault f.size MOST_DEPTH bytes e → FindsShared p bytes (Refused (code_of e))
  shared_refused_at Syntax known h = unread (subst (λ (g : Frame). IsSharedCertFault g.size MOST_DEPTH bytes Syntax) same h)
  shared_refused_at TooDeep known h = goes_deep (subst (λ (g : Frame). IsSharedCertFault g.size MOST_DEPTH bytes TooDeep) same h)
  shared_refused_at NoMemory known h = absurd (known refl)

-- the same of a certificate with shared parts
module _ (p : LineWithUndo) (f : Frame) (bytes : List ℕ) (same : f ≡ p.frame) (side : Side) (o : Outline) (is : IsSharedCertificate f.size bytes side o) where
  here : IsSharedCertificate p.frame.size bytes side o
  here = subst (λ (g : Frame). IsSharedCertificate g.size bytes side o) same is

  pub shared_wins_at : IsOutlineAnswer side p.frame o p.state (Some true) → WinsOrLives side p.frame (unfolded [] o) p.state → FindsShared p bytes Valid
  shared_wins_at h w = shared_wins side o here h w

  pub shared_loses_at : IsOutlineAnswer side p.frame o p.state (Some false) → (WinsOrLives side p.frame (unfolded [] o) p.state → ⊥) → FindsShared p bytes Invalid
  shared_loses_at h w = shared_loses side o here h w

  pub unfit_at : IsOutlineAnswer side p.frame o p.state None → FindsShared p bytes (Refused 32)
  unfit_at h = unfit side o here h

-- an input whose first tree can't be read is refused
pub input_refused : (parts : Bool) (input : List ℕ) (e : SgfFault) → e ≢ sgf.NoMemory → (e ≡ sgf.Syntax → (length input ≤ MAX_BYTES) × HasNoTree input)
    → (e ≡ sgf.TooLong → MAX_BYTES < length input) → Finds parts input (Refused (number_of e))
input_refused parts input sgf.Syntax known none long = let h = none refl in no_tree h.0 h.1
input_refused parts input sgf.TooLong known none long = too_long (long refl)
input_refused parts input sgf.NoMemory known none long = absurd (known refl)

-- what is found behind the first tree
pub found_behind : (parts : Bool) (input : List ℕ) (used : ℕ) (t : GameTree) (nodes : List Node) (bytes : List ℕ) (o : CheckOutcome) → length input ≤ MAX_BYTES → FirstTreeEndsAt input used t
    → nodes ≡ main_line t → bytes ≡ trimmed (take (length input - used) (drop used input)) → FindsOnProblem parts (problem_of nodes) bytes o → Finds parts input o
found_behind parts input used t nodes bytes o small s same is h =
    let whole : take (length input - used) (drop used input) ≡ drop used input = take_all _ _ (omega (arith, length-drop used input)) in
    first_tree used t o small s
    (subst (λ (x : List Node). FindsOnProblem parts (problem_of x) (trimmed (drop used input)) o) same (subst (λ (x : List ℕ). FindsOnProblem parts (problem_of nodes) x o) (is ∙ ap trimmed whole) h))
