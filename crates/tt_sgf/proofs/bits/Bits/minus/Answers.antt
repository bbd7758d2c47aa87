use Rattle.std.proofs.Common.{arith}
use Rattle.tt_sgf.proofs.BitLemmas.{bit-minus}
use Rattle.tt_sgf.proofs.bits.Bits.minus.Goals as goal

pub returns : goal.returns
returns c =
    let made = c.loop-k.invariant in
    bit-minus c.loop-k.words c.args.self.now.words c.args.other.now.words (λ k lt. made.fits k (omega arith)) (λ k lt. made.done k (omega arith))
