use Rattle.tt_proof.proofs.CertificateLemmas.{same_certificate}
use Rattle.tt_proof.proofs.laws.one_strategy_per_certificate.Goals as goal

pub returns : goal.returns
returns c = same_certificate
