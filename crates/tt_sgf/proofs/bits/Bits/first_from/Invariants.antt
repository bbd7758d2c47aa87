use Rattle.std.proofs.Common.{◌≡◌, ◌≤◌, ◌<◌, ◌-◌, ℕ, false}
use Rattle.tt_sgf.specs.declared.bits.TheConstants.{BITS}
use Rattle.tt_sgf.specs.MachineWords.{bit_in}
use Rattle.tt_sgf.proofs.bits.Bits.first_from.Given as goal

abbrev pub invariant-loop-n : goal.invariant-loop-n
invariant-loop-n l = record {
  after : l.from ≤ l.n;
  within : l.n ≤ BITS;
  none : (q : ℕ) → l.from ≤ q → q < l.n → bit_in l.self.words q ≡ false;
}

abbrev pub decreases-loop-n : goal.decreases-loop-n
decreases-loop-n l = BITS - l.n
