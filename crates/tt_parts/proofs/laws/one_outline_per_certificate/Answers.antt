use Rattle.tt_parts.proofs.OutlineLawLemmas.{one_shared}
use Rattle.tt_parts.proofs.laws.one_outline_per_certificate.Goals as goal

pub returns : goal.returns
returns c = one_shared
