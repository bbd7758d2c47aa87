use Rattle.std.proofs.Common.{◌≡◌}
use Rattle.tt_sgf.specs.Points.{passing}
use Rattle.tt_sgf.specs.MachineWords.{bit_in}
use Rattle.tt_marks.proofs.regions.set_of.Given as goal

abbrev pub invariant-loop-number : goal.invariant-loop-number
invariant-loop-number l = l.made ≡ passing (bit_in l.bits.words) l.number
