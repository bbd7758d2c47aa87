-- When each fault comes.
use Rattle.std.specs.Prelude.{ℕ, List}
use Rattle.tt_sgf.specs.declared.size.Size.{Size}
use Rattle.tt_game.specs.declared.frame.Side.{Side}
use Rattle.tt_proof.specs.declared.certificate_read.CertFault.{CertFault}
use Rattle.tt_proof.specs.declared.certificate_read.CertFault.TheVariants.{Syntax, TooDeep, NoMemory}
use Rattle.tt_proof.specs.Strategy.{Strategy}
use Rattle.tt_proof.specs.CertificateText.{IsCertificate, IsTooDeep}

-- the numbers of the refusals
abbrev pub code_of : CertFault → ℕ
code_of Syntax = 30
code_of TooDeep = 31
code_of NoMemory = 40

-- too deep where the bytes are; else no certificate, which is one of no side and tree
abbrev pub IsCertFault : Size → List ℕ → CertFault → Type 0
IsCertFault size bytes Syntax = ((side : Side) (u : Strategy) → IsCertificate size bytes side u → ⊥) × (IsTooDeep size bytes → ⊥)
IsCertFault size bytes TooDeep = IsTooDeep size bytes
IsCertFault size bytes NoMemory = Unit {0}
