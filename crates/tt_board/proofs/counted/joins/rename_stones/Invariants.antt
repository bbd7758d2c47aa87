use Rattle.std.proofs.Common.{◌≡◌, ◌≢◌, ℕ, ◌+◌, ◌<◌, length}
use Rattle.tt_board.specs.inside.Chains.{name_at, liberty_count, stone_count}
use Rattle.tt_board.proofs.JoinLemmas.{IsPartly}
use Rattle.tt_board.proofs.counted.joins.rename_stones.Given as goal

abbrev pub invariant-loop : goal.invariant-loop
invariant-loop l = record {
  wide : length l.names ≡ 361;
  partly : IsPartly l.from l.to l.initial.names l.names;
  done : (k : ℕ) → k < l.next → name_at l.names k ≢ l.from;
  left : l.counter + stone_count l.names l.from ≡ l.stones;
  gained : liberty_count l.fn.size l.names l.to ≡ liberty_count l.fn.size l.initial.names l.to + l.gained;
}
