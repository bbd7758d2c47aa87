-- Which numbers refusals have.
use Rattle.std.specs.Prelude.{◌≡◌, ◌≢◌, ℕ}
use Rattle.tt_sgf.specs.declared.faults.SgfFault.{SgfFault}
use Rattle.tt_sgf.specs.declared.faults.SgfFault.TheVariants as sgf
use Rattle.tt_sgf.specs.Faults as sgf_faults
use Rattle.tt_game.specs.declared.faults.GameFault.{GameFault}
use Rattle.tt_game.specs.declared.faults.GameFault.TheVariants as game
use Rattle.tt_game.specs.Faults as game_faults
use Rattle.tt_proof.specs.declared.certificate_read.CertFault.{CertFault}
use Rattle.tt_proof.specs.declared.certificate_read.CertFault.TheVariants as cert
use Rattle.tt_proof.specs.CertificateFaults as cert_faults

-- A refusal has the number n: of an input, a main line, a certificate, or a certificate with a shared part that doesn't fit. Want of
-- memory is no refusal.
pub data IsRefusalNumber (n : ℕ) : Type 0 where
  of_input : (e : SgfFault) → e ≢ sgf.NoMemory → sgf_faults.code_of e ≡ n → IsRefusalNumber n
  of_main_line : (e : GameFault) → e ≢ game.NoMemory → game_faults.code_of e ≡ n → IsRefusalNumber n
  of_certificate : (e : CertFault) → e ≢ cert.NoMemory → cert_faults.code_of e ≡ n → IsRefusalNumber n
  of_unfit_part : n ≡ 32 → IsRefusalNumber n
