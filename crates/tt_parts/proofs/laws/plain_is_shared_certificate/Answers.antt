use Rattle.tt_parts.proofs.OutlineLawLemmas.{certificates_shared}
use Rattle.tt_parts.proofs.laws.plain_is_shared_certificate.Goals as goal

pub returns : goal.returns
returns c = certificates_shared
