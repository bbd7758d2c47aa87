use Rattle.tt_game.specs.declared.frame.Side.TheVariants.{Attacker, Defender}
use Rattle.tt_proof.proofs.CertificateLemmas.{no_side}
use Rattle.tt_proof.proofs.certificate_read.read_cert.Goals as goal

pub returns-in_default : goal.returns-in_default
returns-in_default c =
    no_side c.args.size c.args.size.columns_in.0 c.args.bytes.now (c.in_default.ensures Attacker) (c.in_default.ensures Defender)

pub returns : goal.returns
returns c = rw c.in-Some.ensures c.read_cert_for_side.ensures
