use Rattle.std.proofs.Common.{arith}
use Rattle.tt_sgf.proofs.BitLemmas.{low_mask}
use Rattle.tt_sgf.proofs.bits.low_bits.Goals as goal

pub returns : goal.returns
returns c = low_mask c.args.word c.args.count (omega arith)
