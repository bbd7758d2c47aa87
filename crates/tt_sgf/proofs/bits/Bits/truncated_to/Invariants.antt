use Rattle.std.proofs.Common.{◌≡◌, ℕ, ◌<◌, ◌-◌, ◌*◌, length, get_or}
use Rattle.tt_sgf.specs.MachineWords.{AreLowBitsOf}
use Rattle.tt_sgf.proofs.bits.Bits.truncated_to.Given as goal

abbrev pub invariant-loop-k : goal.invariant-loop-k
invariant-loop-k l = (length l.words ≡ 6) × ((k : ℕ) → k < l.k → AreLowBitsOf (get_or l.words k 0) (get_or l.self.words k 0) (l.count - 64 * k))
