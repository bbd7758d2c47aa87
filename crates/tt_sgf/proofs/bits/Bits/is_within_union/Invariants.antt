use Rattle.std.proofs.Common.{◌≡◌, ◌<◌, ◌*◌, ◌||◌, ℕ, true}
use Rattle.tt_sgf.specs.MachineWords.{bit_in}
use Rattle.tt_sgf.proofs.bits.Bits.is_within_union.Given as goal

abbrev pub invariant-loop-k : goal.invariant-loop-k
invariant-loop-k l = (q : ℕ) → q < 64 * l.k → bit_in l.self.words q ≡ true → (bit_in l.one.words q || bit_in l.other.words q) ≡ true
