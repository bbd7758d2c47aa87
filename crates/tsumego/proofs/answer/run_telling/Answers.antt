use Rattle.std.proofs.lemmas.Result.{err_from_is_err_and}
use Rattle.tsumego.proofs.Limit.{command_writes_nothing, command_writes_read}
use Rattle.tsumego.proofs.answer.run_telling.Goals as goal

pub returns-clause-written : goal.returns-clause-written
returns-clause-written g c =
    command_writes_read c.args.command.now _ c.as_slice.result.now c.answer.result _ _ c.task_of-task.result c.task_of-task.ensures
    (rw c.as_slice.ensures.value c.in_ok-input.ensures.read) c.answer.ensures.written

pub returns-in_err-input-clause-written : goal.returns-in_err-input-clause-written
returns-in_err-input-clause-written g c =
    let p = err_from_is_err_and c.from_residual.result c.from_residual.ensures.1 in
    rw (p.1, p.2) (command_writes_nothing c.args.command.now _ c.in_err-input.field-0.0 _ c.task_of-task.result c.task_of-task.ensures c.in_err-input.ensures.fault)
