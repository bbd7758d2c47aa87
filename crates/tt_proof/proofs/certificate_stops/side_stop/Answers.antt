use Rattle.std.proofs.Common.{subst}
use Rattle.tt_proof.specs.inside.CertificateWalking.{HaveInCommon}
use Rattle.tt_proof.proofs.StopLemmas.{sides_stop}
use Rattle.tt_proof.proofs.certificate_stops.side_stop.Goals as goal

pub returns : goal.returns
returns c =
    let bytes = c.args.bytes.now in
    λ size. rw c.max.ensures (sides_stop size bytes c.common_length-killed.result c.common_length-lives.result
    (subst (λ w. HaveInCommon bytes w c.common_length-killed.result) c.verdict_word.ensures c.common_length-killed.ensures)
    (subst (λ w. HaveInCommon bytes w c.common_length-lives.result) c.verdict_word-2.ensures c.common_length-lives.ensures) c.requires)
