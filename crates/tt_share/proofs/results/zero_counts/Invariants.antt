use Rattle.std.proofs.Common.{◌≡◌, ◌≤◌, ℕ, All, map, take, length, vec_len, vec_capacity}
use Rattle.tt_game.specs.declared.turns.Turn.{Turn}
use Rattle.tt_share.proofs.results.zero_counts.Given as goal

abbrev pub invariant-loop-turn : goal.invariant-loop-turn
invariant-loop-turn l = record {
  len : vec_len l.spent ≡ l.turn-index;
  room : length l.turns ≤ vec_capacity l.spent;
  turns : map (λ (e : Turn × ℕ). e.0) l.spent.items ≡ take l.turn-index l.turns;
  none : All (λ (e : Turn × ℕ). e.1 ≡ 0) l.spent.items;
}
