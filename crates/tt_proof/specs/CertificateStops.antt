-- At which byte the reading of a certificate stops.
use Rattle.std.specs.Prelude.{ℕ, ◌+◌, ◌<◌, ◌≤◌, List, ◌++◌, length, take}
use Rattle.tt_sgf.specs.declared.size.Size.{Size}
use Rattle.tt_game.specs.declared.frame.Side.{Side}
use Rattle.tt_proof.specs.Strategy.{Strategy}
use Rattle.tt_proof.specs.CertificateText.{IsCertificate}

-- the bytes are the beginning of some certificate
abbrev pub BeginsSomeCertificate : Size → List ℕ → Type 0
BeginsSomeCertificate size bytes = (more : List ℕ) × (side : Side) × (u : Strategy) × IsCertificate size (bytes ++ more) side u

-- so many bytes begin some certificate, and none has the byte behind them there; all bytes where each begins one
pub record CertificateStopsAt (size : Size) (bytes : List ℕ) (index : ℕ) : Type 0 where
  pub within : index ≤ length bytes
  pub before : BeginsSomeCertificate size (take index bytes)
  pub stops : index < length bytes → BeginsSomeCertificate size (take (index + 1) bytes) → ⊥
