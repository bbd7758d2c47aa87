use Rattle.tt_sgf.proofs.ShiftLemmas.{down_word}
use Rattle.tt_sgf.proofs.bits.shifted_right.Goals as goal

pub returns : goal.returns
returns c = down_word c.args.word c.args.above c.args.k c.ranges.word.fits c.requires.few
