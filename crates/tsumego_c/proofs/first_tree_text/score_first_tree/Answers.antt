use Rattle.std.proofs.Common.{Err, ap, rules}
use Rattle.std.proofs.lemmas.Result.{IfOk-weaker}
use Rattle.tt_text.specs.Scoring.{Scores}
use Rattle.tsumego_c.proofs.FirstLines.{outcome_read, outcome_refused}
use Rattle.tsumego_c.proofs.first_tree_text.score_first_tree.Goals as goal

pub returns-in-Ok : goal.returns-in-Ok
returns-in-Ok c =
    let found = c.in-Ok.ensures.found in
    IfOk-weaker c.score.result _ _ (λ o h. outcome_read Scores c.args.sgf.now _ found.0 c.in-Ok.main.nodes o c.in-Ok.ensures.within.2 found.1 found.2 h) c.score.ensures

pub returns-in-Err : goal.returns-in-Err
returns-in-Err c =
    rw c.code.ensures
    (outcome_refused Scores c.args.sgf.now c.in-Err.fault (search rules) (λ e. c.in-Err.ensures.syntax (ap Err e)) (λ e. c.in-Err.ensures.too_long.0 (ap Err e)))
