use Rattle.std.proofs.lemmas.Result.{err_from_is_err_and}
use Rattle.tt_sgf.proofs.LoopLemmas.{values_more, values_shorter, values_fail, values_end}
use Rattle.tt_sgf.proofs.properties.values.Goals as goal

pub returns-in_err-raw : goal.returns-in_err-raw
returns-in_err-raw c =
    let p = err_from_is_err_and c.from_residual.result c.from_residual.ensures.1 in
    rw (p.1, p.2) (values_fail c.loop-opened.rest.now c.in-Some.opened.now c.in-Some.ensures c.in_err-raw.field-0.0 c.loop-opened.values _ c.in_err-raw.ensures c.loop-opened.invariant)

pub loop-opened-smaller : goal.loop-opened-smaller
loop-opened-smaller c = values_shorter c.loop-opened.rest.now c.in-Some.opened.now c.in-Some.ensures c.in_ok-raw.raw c.in_ok-raw.after.now c.in_ok-raw.ensures

pub loop-opened-preserved : goal.loop-opened-preserved
loop-opened-preserved c =
    rw c.in_ok-values.ensures
    (values_more c.loop-opened.rest.now c.in-Some.opened.now c.in-Some.ensures c.loop-opened.values c.in_ok-raw.raw c.in_ok-raw.after.now _ c.in_ok-raw.ensures c.loop-opened.invariant)

pub returns : goal.returns
returns c = values_end c.loop-opened.rest.now c.loop-opened.values _ c.in_default.ensures c.loop-opened.invariant
