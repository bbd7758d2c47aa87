use Rattle.tt_game.specs.declared.frame.Side.TheVariants.{Attacker, Defender}
use Rattle.tt_parts.proofs.OutlineFaultLemmas.{no_side}
use Rattle.tt_parts.proofs.outline_read.read_shared_cert_to_depth.Goals as goal

pub returns-in_default-clause-fault : goal.returns-in_default-clause-fault
returns-in_default-clause-fault c =
    no_side c.args.size c.args.bytes.now c.args.most_depth (c.in_default.ensures Attacker) (c.in_default.ensures Defender)

pub returns-clause-certificate : goal.returns-clause-certificate
returns-clause-certificate c = rw c.in-Some.ensures c.read_shared_cert_for_side.ensures.certificate

pub returns-clause-fault : goal.returns-clause-fault
returns-clause-fault c = rw c.in-Some.ensures c.read_shared_cert_for_side.ensures.fault
