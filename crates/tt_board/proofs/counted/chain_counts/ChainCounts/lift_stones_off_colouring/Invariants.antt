use Rattle.std.proofs.Common.{◌≡◌, ◌≢◌, ℕ, ◌<◌, length, drop, None}
use Rattle.tt_board.specs.Reach.{entry_at}
use Rattle.tt_board.specs.inside.Chains.{name_at, stone_count}
use Rattle.tt_board.proofs.counted.chain_counts.ChainCounts.lift_stones_off_colouring.Given as goal

abbrev pub invariant-loop-p : goal.invariant-loop-p
invariant-loop-p l = record {
  fits : length l.points ≡ length l.initial.points;
  gone : (q : ℕ) → q < l.p → name_at l.self.names q ≡ l.name → entry_at l.points q ≡ None;
  rest : l.left ≡ stone_count (drop l.p l.self.names) l.name;
  kept : (q : ℕ) → name_at l.self.names q ≢ l.name → entry_at l.points q ≡ entry_at l.initial.points q;
}
