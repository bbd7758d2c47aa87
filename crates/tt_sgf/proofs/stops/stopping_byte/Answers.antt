use Rattle.std.proofs.Common.{sym, ◌∙◌, arith}
use Rattle.tt_sgf.proofs.PlaceLemmas.{one_more, stops_at, stops_at_end}
use Rattle.tt_sgf.proofs.stops.stopping_byte.Goals as goal

pub returns-in-Stuck : goal.returns-in-Stuck
returns-in-Stuck c =
    let bytes = c.args.bytes.now in
    let i = c.loop-i.i in
    stops_at bytes i c.loop-i-test.true (λ e. c.loop-i.invariant.1 (sym c.loop-i.invariant.0 ∙ e))
    (one_more bytes i c.loop-i.place c.loop-i-test.true c.loop-i.invariant.0 ∙ sym c.behind-place.ensures.is ∙ c.in-Stuck.is)

pub loop-i-preserved : goal.loop-i-preserved
loop-i-preserved c = (
  one_more c.args.bytes.now c.loop-i.i c.loop-i.place c.loop-i-test.true c.loop-i.invariant.0 ∙ sym c.behind-place.ensures.is,
  c.in_default.not-Stuck,
  omega (arith, c.behind-place.ensures.depth, c.loop-i.invariant.2),
)

pub returns : goal.returns
returns c = stops_at_end c.args.bytes.now c.loop-i.i (omega (arith, c.loop-i-test.false)) (λ e. c.loop-i.invariant.1 (sym c.loop-i.invariant.0 ∙ e))
