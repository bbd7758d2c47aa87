use Rattle.std.proofs.Common.{sym}
use Rattle.std.proofs.lemmas.Result.{err_from_is_err_and}
use Rattle.tt_sgf.proofs.LoopLemmas.{properties_more, properties_shorter, properties_fail, properties_end}
use Rattle.tt_sgf.proofs.properties.properties.Goals as goal

pub returns-in_err-one : goal.returns-in_err-one
returns-in_err-one c =
    let p = err_from_is_err_and c.from_residual.result c.from_residual.ensures.1 in
    let e = rw c.skip_blanks.ensures at c.in_err-one.ensures in
    let o = c.loop-alloc-test.ensures in
    rw (p.1, p.2) (properties_fail c.loop-alloc.rest.now (sym o) c.in_err-one.field-0.0 c.loop-alloc.properties.items _ e c.loop-alloc.invariant)

pub loop-alloc-smaller : goal.loop-alloc-smaller
loop-alloc-smaller c =
    let e = rw c.skip_blanks.ensures at c.in_ok-one.ensures in
    properties_shorter c.loop-alloc.rest.now (sym c.loop-alloc-test.ensures) c.in_ok-one.one c.in_ok-one.after.now e

pub loop-alloc-preserved : goal.loop-alloc-preserved
loop-alloc-preserved c =
    let e = rw c.skip_blanks.ensures at c.in_ok-one.ensures in
    rw c.in_ok-add.ensures (properties_more c.loop-alloc.rest.now (sym c.loop-alloc-test.ensures) c.loop-alloc.properties.items c.in_ok-one.one c.in_ok-one.after.now _ e c.loop-alloc.invariant)

pub returns : goal.returns
returns c = properties_end c.loop-alloc.rest.now c.loop-alloc.properties.items _ (sym c.loop-alloc-test.ensures) c.loop-alloc.invariant
