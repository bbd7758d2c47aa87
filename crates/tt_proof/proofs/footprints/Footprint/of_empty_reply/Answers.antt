use Rattle.std.proofs.Common.{ap}
use Rattle.std.specs.FinSet as set
use Rattle.std.specs.Ordering.{nat_cmp}
use Rattle.tt_proof.proofs.footprints.Footprint.of_empty_reply.Goals as goal

pub of_empty_reply_given_legal-requires : goal.of_empty_reply_given_legal-requires
of_empty_reply_given_legal-requires c = λ p there. absurd (cc (there, ap (λ s. set.contains s p) c.empty.ensures, set.contains-empty nat_cmp p))
