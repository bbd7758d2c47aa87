-- Laws of certificates with shared parts.
use Rattle.std.specs.Prelude.{◌≡◌, ℕ, Bool, Option, None, List, []}
use Rattle.tt_sgf.specs.declared.size.Size.{Size}
use Rattle.tt_game.specs.Game.{State}
use Rattle.tt_game.specs.declared.frame.Frame.{Frame}
use Rattle.tt_game.specs.declared.frame.Side.{Side}
use Rattle.tt_proof.specs.Strategy.{Strategy}
use Rattle.tt_proof.specs.CertificateText.{IsCertificate}
use Rattle.tt_parts.specs.Outlines.{Outline, IsSharedCertificate, unfolded}
use Rattle.tt_parts.specs.SharedParts.{IsOutlineAnswer}

-- bytes are the certificate with shared parts of one side and one outline at the most, and so of one strategy
abbrev pub OneOutlinePerCertificate : Type 0
OneOutlinePerCertificate =
    (size : Size) (bytes : List ℕ) (s t : Side) (o p : Outline) → IsSharedCertificate size bytes s o → IsSharedCertificate size bytes t p → (s ≡ t) × (o ≡ p)

-- a certificate is one with shared parts, of the same strategy, and no part of it doesn't fit
abbrev pub PlainIsSharedCertificate : Type 0
PlainIsSharedCertificate =
    (size : Size) (bytes : List ℕ) (s : Side) (u : Strategy) → IsCertificate size bytes s u
    → (o : Outline) × (IsSharedCertificate size bytes s o × (unfolded [] o ≡ u) × ((side : Side) (f : Frame) (at : State) → IsOutlineAnswer side f o at None → ⊥))

-- the rule for shared parts has one answer to an outline at a state
abbrev pub OneAnswerPerOutline : Type 0
OneAnswerPerOutline =
    (side : Side) (f : Frame) (o : Outline) (s : State) (a b : Option Bool) → IsOutlineAnswer side f o s a → IsOutlineAnswer side f o s b → a ≡ b
