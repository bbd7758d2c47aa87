use Rattle.std.proofs.Common.{rules, [], Err, Ok, inl, inr}
use Rattle.std.proofs.lemmas.Result.{err_from_is_err_and}
use Rattle.tsumego_show.proofs.Limit.{text_breaks, writes_read}
use Rattle.tsumego_show.proofs.running.run.Goals as goal

pub returns-in-Ok-clause-written : goal.returns-in-Ok-clause-written
returns-in-Ok-clause-written g c =
    writes_read c.args.mode _ c.as_slice.result.now (Ok c.status-status.result) _ _ (rw c.as_slice.ensures.value c.in_ok-input.ensures.read)
    (c.as_slice-in-Ok.result.now, inl (c.in-Ok.shown.refused, search rules, search rules), search rules)

pub returns-in_err-write_bytes-in-Ok-clause-written : goal.returns-in_err-write_bytes-in-Ok-clause-written
returns-in_err-write_bytes-in-Ok-clause-written g c =
    let back = c.from_residual-in_err-write_bytes-in-Ok in
    let p = err_from_is_err_and back.result back.ensures.1 in
    let fault = c.in_err-write_bytes-in-Ok.field-0.0 in
    rw (p.1, p.2) (writes_read c.args.mode _ c.as_slice.result.now (Err fault) _ _ (rw c.as_slice.ensures.value c.in_ok-input.ensures.read)
    (text_breaks c.args.mode c.as_slice.result.now c.as_slice-in-Ok.result.now c.status-status.result fault _ _
    (c.in-Ok.shown.refused, search rules, search rules) c.in_err-write_bytes-in-Ok.ensures.written))

pub returns-in-Err-OtherProblem-clause-written : goal.returns-in-Err-OtherProblem-clause-written
returns-in-Err-OtherProblem-clause-written g c =
    writes_read c.args.mode _ c.as_slice.result.now (Ok 2) _ _ (rw c.as_slice.ensures.value c.in_ok-input.ensures.read)
    ([], inr (c.writes_trees.ensures.0 c.if-writes_trees.true, search rules, search rules), search rules)
