use Rattle.std.proofs.Common.{◌≡◌, ap, sym, ◌∙◌, ◌+◌, arith}
use Rattle.std.specs.FinSet as set
use Rattle.tt_sgf.specs.declared.size.TheConstants.{MOST_POINTS}
use Rattle.tt_sgf.specs.Points.{passing}
use Rattle.tt_sgf.specs.MachineWords.{bit_in}
use Rattle.tt_sgf.proofs.BitLemmas.{len-passing-none, len-passing-in, len-passing-out, len-points}
use Rattle.tt_sgf.proofs.bits.Bits.count_points.Goals as goal
use Rattle.tt_sgf.proofs.bits.Bits.count_points.Goals.{then-has, else-has}

pub loop-n-init : goal.loop-n-init
loop-n-init c = (sym (len-passing-none (bit_in c.args.self.now.words)), omega arith)

pub loop-n-preserved : goal.loop-n-preserved
loop-n-preserved c =
    let e = c.loop-n.invariant.0 in
    let words = c.args.self.now.words in
    elim c.if-has.branch [
      | then-has w ↦ (w.count-is ∙ ap (λ x. x + 1) e ∙ sym (len-passing-in (bit_in words) c.loop-n.n (sym c.has.ensures ∙ w.if-has.true)), omega arith)
      | else-has w ↦ (w.count-is ∙ e ∙ sym (len-passing-out (bit_in words) c.loop-n.n (sym c.has.ensures ∙ w.if-has.false)), omega arith)
    ]

pub returns : goal.returns
returns c =
    let words = c.args.self.now.words in
    let full : c.loop-n.n ≡ MOST_POINTS = omega arith in
    c.loop-n.invariant.0 ∙ ap (λ k. set.len (passing (bit_in words) k)) full ∙ sym (len-points words)
