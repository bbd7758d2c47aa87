use Rattle.std.proofs.Common.{arith}
use Rattle.tt_sgf.proofs.BitLemmas.{low_kept, low_none}
use Rattle.tt_sgf.proofs.bits.Bits.truncated_to.Goals as goal

pub returns-clause-kept : goal.returns-clause-kept
returns-clause-kept c = low_kept c.loop-k.words c.args.self.now.words c.args.count (λ k lt. c.loop-k.invariant.1 k (omega arith))

pub returns-clause-none : goal.returns-clause-none
returns-clause-none c = low_none c.loop-k.words c.args.self.now.words c.args.count (λ k lt. c.loop-k.invariant.1 k (omega arith))
