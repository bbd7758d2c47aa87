use Rattle.std.proofs.Common.{rules}
use Rattle.tt_proof.specs.Strategy.{strategy_of}
use Rattle.tt_text.proofs.Checks.{loses_at, refused_at, wins_at}
use Rattle.tt_text.proofs.checking.check_plain.Goals as goal

pub returns-in-true : goal.returns-in-true
returns-in-true c =
    wins_at c.args.line.now c.frame.result.now c.args.certificate.now c.frame.ensures.value c.in-Ok.side (strategy_of c.in-Ok.tree) c.in-Ok.ensures
    (search (rules, c.in_ok-replay-in-Ok.ensures.exact, c.in-true.is))

pub returns-in-Ok : goal.returns-in-Ok
returns-in-Ok c =
    loses_at c.args.line.now c.frame.result.now c.args.certificate.now c.frame.ensures.value c.in-Ok.side (strategy_of c.in-Ok.tree) c.in-Ok.ensures
    (search (rules, c.in_ok-replay-in-Ok.ensures.exact, c.in-false.is))

pub returns : goal.returns
returns c =
    rw c.code.ensures (refused_at c.args.line.now c.frame.result.now c.args.certificate.now c.frame.ensures.value c.in-Err.fault (search rules) c.in-Err.ensures)
