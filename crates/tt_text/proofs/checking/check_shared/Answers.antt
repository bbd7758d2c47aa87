use Rattle.std.proofs.Common.{rules, subst}
use Rattle.tt_game.specs.declared.frame.Frame.{Frame}
use Rattle.tt_parts.specs.Outlines.{outline_of, IsOutlineInOrder}
use Rattle.tt_text.proofs.Checks.{shared_loses_at, shared_refused_at, shared_wins_at, unfit_at}
use Rattle.tt_text.proofs.checking.check_shared.Goals as goal

pub replay_shared_cert-requires : goal.replay_shared_cert-requires
replay_shared_cert-requires c = subst (λ (g : Frame). IsOutlineInOrder g.size (outline_of c.in-Ok.outline)) c.frame.ensures.value c.in-Ok.ensures.orderly

pub returns-in-Some-true : goal.returns-in-Some-true
returns-in-Some-true c =
    shared_wins_at c.args.line.now c.frame.result.now c.args.certificate.now c.frame.ensures.value c.in-Ok.side (outline_of c.in-Ok.outline) c.in-Ok.ensures
    (search (rules, c.in_ok-replay_shared_cert-in-Ok.ensures.parts, c.in-Some-true.field-0-test)) (search (rules, c.in_ok-replay_shared_cert-in-Ok.ensures.exact, c.in-Some-true.field-0-test))

pub returns-in-Some-false : goal.returns-in-Some-false
returns-in-Some-false c =
    shared_loses_at c.args.line.now c.frame.result.now c.args.certificate.now c.frame.ensures.value c.in-Ok.side (outline_of c.in-Ok.outline) c.in-Ok.ensures
    (search (rules, c.in_ok-replay_shared_cert-in-Ok.ensures.parts, c.in-Some-false.field-0-test)) (search (rules, c.in_ok-replay_shared_cert-in-Ok.ensures.exact, c.in-Some-false.field-0-test))

pub returns-in-Ok : goal.returns-in-Ok
returns-in-Ok c =
    unfit_at c.args.line.now c.frame.result.now c.args.certificate.now c.frame.ensures.value c.in-Ok.side (outline_of c.in-Ok.outline) c.in-Ok.ensures
    (search (rules, c.in_ok-replay_shared_cert-in-Ok.ensures.parts, c.in-None.is))

pub returns : goal.returns
returns c =
    rw c.code.ensures (shared_refused_at c.args.line.now c.frame.result.now c.args.certificate.now c.frame.ensures.value c.in-Err.fault (search rules) c.in-Err.ensures)
