use Rattle.std.proofs.Common.{arith}
use Rattle.tt_sgf.proofs.BitLemmas.{bit-and}
use Rattle.tt_sgf.proofs.bits.Bits.and.Goals as goal

pub returns : goal.returns
returns c = bit-and c.loop-k.words c.args.self.now.words c.args.other.now.words (λ k lt. c.loop-k.invariant.1 k (omega arith))
