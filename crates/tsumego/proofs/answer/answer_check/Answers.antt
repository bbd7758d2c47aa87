use Rattle.std.proofs.Common.{rules}
use Rattle.std.proofs.lemmas.Result.{err_from_is_err_and}
use Rattle.tsumego.proofs.Breaks.{check_breaks}
use Rattle.tsumego.proofs.answer.answer_check.Goals as goal

pub returns-in_err-write_bytes-clause-written : goal.returns-in_err-write_bytes-clause-written
returns-in_err-write_bytes-clause-written g c =
    let p = err_from_is_err_and c.from_residual.result c.from_residual.ensures.1 in
    rw (p.1, p.2) (check_breaks c.args.parts c.args.input.now c.as_bytes.result.now c.in-Ok.finding c.in_err-write_bytes.field-0.0 _ _ c.in-Ok.ensures
    (search (rules, c.as_bytes.ensures.value, c.in-Ok-check_line.ensures)) c.in_err-write_bytes.ensures.written)
