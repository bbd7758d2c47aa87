use Rattle.std.proofs.Common.{◌≡◌, ℕ, ◌<◌, ◌≤◌, length, None}
use Rattle.tt_board.specs.Reach.{entry_at}
use Rattle.tt_board.proofs.colouring.Colouring.entries.Given as goal

abbrev pub invariant-loop-p : goal.invariant-loop-p
invariant-loop-p l = record {
  wide : length l.entries ≡ 361;
  done : (k : ℕ) → k < l.p → entry_at l.entries k ≡ entry_at l.self k;
  rest : (k : ℕ) → l.p ≤ k → entry_at l.entries k ≡ None;
}
