use Rattle.std.proofs.Common.{◌≡◌, ℕ, ◌<◌, ◌+◌, length, get_or}
use Rattle.tt_sgf.specs.MachineWords.{IsShiftedRight}
use Rattle.tt_sgf.proofs.bits.Bits.shift_to_lower.Given as goal

abbrev pub invariant-loop-j : goal.invariant-loop-j
invariant-loop-j l = record {
  wide : length l.words ≡ 6;
  last : IsShiftedRight (get_or l.words 5 0) (get_or l.self.words 5 0) 0 l.k;
  rest : (j : ℕ) → j < l.j → IsShiftedRight (get_or l.words j 0) (get_or l.self.words j 0) (get_or l.self.words (j + 1) 0) l.k;
}
