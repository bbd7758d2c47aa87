use Rattle.std.proofs.Common.{◌≡◌, ℕ, ◌<◌, length, get_or}
use Rattle.std.specs.Prelude.{bit_and}
use Rattle.tt_sgf.proofs.bits.Bits.and.Given as goal

abbrev pub invariant-loop-k : goal.invariant-loop-k
invariant-loop-k l = (length l.words ≡ 6) × ((k : ℕ) → k < l.k → get_or l.words k 0 ≡ bit_and (get_or l.self.words k 0) (get_or l.other.words k 0))
