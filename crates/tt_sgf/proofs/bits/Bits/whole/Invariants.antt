use Rattle.std.proofs.Common.{◌≡◌, ℕ, ◌<◌, ◌≤◌, true, false}
use Rattle.tt_sgf.specs.declared.bits.TheConstants.{BITS}
use Rattle.tt_sgf.specs.MachineWords.{bit_in}
use Rattle.tt_sgf.proofs.bits.Bits.whole.Given as goal

abbrev pub invariant-loop-p : goal.invariant-loop-p
invariant-loop-p l = record {
  on : (q : ℕ) → q < l.p → bit_in l.found.words q ≡ true;
  past : (q : ℕ) → l.p ≤ q → q < BITS → bit_in l.found.words q ≡ false;
}
