use Rattle.tt_sgf.proofs.BitLemmas.{bit_is}
use Rattle.tt_sgf.proofs.bits.Bits.has.Goals as goal

pub returns : goal.returns
returns c = bit_is c.args.self.now.words c.args.n
