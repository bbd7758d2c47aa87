use Rattle.std.proofs.Common.{Err, rules, ap, sym, subst}
use Rattle.std.proofs.lemmas.Result.{IfOk-weaker}
use Rattle.tt_text.specs.Checking.{Finds}
use Rattle.tt_text.specs.declared.checking.CheckOutcome.TheVariants.{Refused}
use Rattle.tt_text.proofs.Checks.{found_behind, input_refused}
use Rattle.tt_text.proofs.checking.check_input.Goals as goal

pub returns-in-Ok : goal.returns-in-Ok
returns-in-Ok c =
    let found = c.in-Ok.ensures.found in
    IfOk-weaker c.check_on_problem.result _ _ (λ o h. found_behind c.args.parts c.args.input.now c.in-Ok.used found.0 c.in-Ok.main.nodes c.trim.result.now o
    c.in-Ok.ensures.within.2 found.1 found.2 c.trim.ensures h) c.check_on_problem.ensures

pub returns-in-Err : goal.returns-in-Err
returns-in-Err c =
    subst (λ k. Finds c.args.parts c.args.input.now (Refused k)) (sym c.code.ensures)
    (input_refused c.args.parts c.args.input.now c.in-Err.fault (search rules) (λ e. c.in-Err.ensures.syntax (ap Err e)) (λ e. c.in-Err.ensures.too_long.0 (ap Err e)))
