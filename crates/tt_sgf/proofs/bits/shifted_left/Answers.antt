use Rattle.tt_sgf.proofs.ShiftLemmas.{up_word}
use Rattle.tt_sgf.proofs.bits.shifted_left.Goals as goal

pub returns : goal.returns
returns c = up_word c.args.word c.args.below c.args.k c.ranges.below.fits c.requires.few
