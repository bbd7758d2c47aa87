use Rattle.tt_proof.proofs.StopLemmas.{certificate_tree_stops, certificate_tree_read}
use Rattle.tt_proof.proofs.certificate_stops.certificate_stop.Goals as goal

pub returns-in-Ok : goal.returns-in-Ok
returns-in-Ok c =
    certificate_tree_read c.args.size c.args.bytes.now c.in-Some.rest.now c.in-Some.field-0-0 c.in-Some.ensures c.in-Ok.behind.now c.in-Ok.ensures

pub returns-in-Err : goal.returns-in-Err
returns-in-Err c =
    certificate_tree_stops c.args.size c.args.bytes.now c.in-Some.rest.now c.in-Some.field-0-0 c.in-Some.ensures c.in-Err.behind.now c.in-Err.ensures

pub returns-in_default : goal.returns-in_default
returns-in_default c = c.side_stop.ensures c.args.size
