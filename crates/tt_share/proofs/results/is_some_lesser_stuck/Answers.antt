use Rattle.std.proofs.Common.{refl, arith, sym, ◌∙◌, ◌<◌, ◌≤◌}
use Rattle.std.proofs.lemmas.Bool.{false≢true}
use Rattle.tt_share.proofs.Wins.{not_stuck_more, stuck_in, stuck_here, stuck_within}
use Rattle.tt_share.proofs.results.is_some_lesser_stuck.Goals as goal

pub loop-lesser-preserved : goal.loop-lesser-preserved
loop-lesser-preserved c =
    let ends = c.args.ends.now in
    not_stuck_more ends c.loop-lesser.lesser c.loop-lesser.invariant
    (λ stuck. false≢true (sym c.if-is_some_stuck.false ∙ c.is_some_stuck.ensures.1
    (stuck_in ends c.loop-lesser.lesser c.index-ends-lesser.result c.loop-lesser-test.true c.index-ends-lesser.is stuck)))

pub returns-then-lesser-job : goal.returns-then-lesser-job
returns-then-lesser-job c =
    let past : c.args.job ≤ c.loop-lesser.lesser = omega arith in
    (λ up. absurd (false≢true up), λ h. absurd (c.loop-lesser.invariant h.0 (let low = h.1 in omega (arith, low, past)) h.2))

pub returns-then-is_some_stuck : goal.returns-then-is_some_stuck
returns-then-is_some_stuck c =
    let ends = c.args.ends.now in
    let low : c.loop-lesser.lesser < c.args.job = omega arith in
    let stuck = stuck_here ends c.loop-lesser.lesser c.index-ends-lesser.result c.loop-lesser-test.true c.index-ends-lesser.is (c.is_some_stuck.ensures.0 c.if-is_some_stuck.true) in
    (λ up. (c.loop-lesser.lesser, low, stuck), λ h. refl)

pub returns : goal.returns
returns c =
    let ends = c.args.ends.now in
    (λ up. absurd (false≢true up), λ h. absurd (c.loop-lesser.invariant h.0 (let within = stuck_within ends h.0 h.2 in omega (arith, within, c.loop-lesser-test.false)) h.2))
