use Rattle.std.proofs.Common.{arith}
use Rattle.tt_sgf.proofs.ShiftLemmas.{up_moved, up_low}
use Rattle.tt_sgf.proofs.bits.Bits.shift_to_higher.Goals as goal

pub returns-clause-moved : goal.returns-clause-moved
returns-clause-moved c =
    let made = c.loop-j.invariant in up_moved c.loop-j.words c.args.self.now.words c.args.k c.requires.few made.first (λ j some lt. made.rest j some (omega arith))

pub returns-clause-low : goal.returns-clause-low
returns-clause-low c =
    let made = c.loop-j.invariant in up_low c.loop-j.words c.args.self.now.words c.args.k c.requires.few made.first (λ j some lt. made.rest j some (omega arith))
