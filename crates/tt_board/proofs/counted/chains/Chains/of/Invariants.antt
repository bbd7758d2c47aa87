use Rattle.std.proofs.Common.{◌≡◌, ℕ, ◌<◌, ◌≤◌, length, None}
use Rattle.tt_sgf.specs.Sizes.{point_count}
use Rattle.tt_board.specs.Reach.{entry_at}
use Rattle.tt_board.proofs.counted.chains.Chains.of.Given as goal

abbrev pub invariant-loop-p : goal.invariant-loop-p
invariant-loop-p l = record {
  size : l.made.size ≡ l.fn.size;
  fits : length l.made.points ≡ point_count l.fn.size;
  made : (k : ℕ) → k < l.p → entry_at l.made.points k ≡ entry_at l.points k;
  rest : (k : ℕ) → l.p ≤ k → entry_at l.made.points k ≡ None;
}
