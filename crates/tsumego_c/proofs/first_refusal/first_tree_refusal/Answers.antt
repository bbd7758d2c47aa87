use Rattle.std.proofs.Common.{Err, ap, rules}
use Rattle.std.proofs.lemmas.Result.{IfOk-weaker}
use Rattle.tsumego_c.proofs.Refusals.{input_refused, refusal_read}
use Rattle.tsumego_c.proofs.first_refusal.first_tree_refusal.Goals as goal

pub returns-in-Ok : goal.returns-in-Ok
returns-in-Ok c =
    let found = c.in-Ok.ensures.found in
    IfOk-weaker c.refusal_of_main_line.result _ _ (λ r h. refusal_read c.args.is_record c.args.sgf.now _ found.0 c.in-Ok.main.nodes r c.in-Ok.ensures.within.2
    found.1 found.2 h) c.refusal_of_main_line.ensures

pub returns-in-Err : goal.returns-in-Err
returns-in-Err c =
    rw (c.refusal_of_input.ensures, c.code.ensures)
    (input_refused c.args.is_record c.args.sgf.now c.in-Err.fault (search rules) (λ e. c.in-Err.ensures.syntax (ap Err e)) (λ e. c.in-Err.ensures.too_long.0 (ap Err e)))
