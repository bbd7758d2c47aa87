use Rattle.std.proofs.Common.{◌≡◌, ℕ, ◌<◌, ◌^◌, length, get_or}
use Rattle.std.specs.Prelude.{bit_and}
use Rattle.std.specs.Int.{bit_not, w64}
use Rattle.tt_sgf.proofs.bits.Bits.minus.Given as goal

abbrev pub invariant-loop-k : goal.invariant-loop-k
invariant-loop-k l = record {
  wide : length l.words ≡ 6;
  fits : (k : ℕ) → k < l.k → get_or l.other.words k 0 < 2 ^ 64;
  done : (k : ℕ) → k < l.k → get_or l.words k 0 ≡ bit_and (get_or l.self.words k 0) (bit_not w64 (get_or l.other.words k 0));
}
