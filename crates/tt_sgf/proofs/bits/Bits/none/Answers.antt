use Rattle.tt_sgf.proofs.BitLemmas.{no_bit}
use Rattle.tt_sgf.proofs.bits.Bits.none.Goals as goal

pub returns : goal.returns
returns c = λ n small. no_bit n
