use Rattle.std.proofs.Common.{◌≡◌, ◌≢◌, ℕ, ◌<◌, length}
use Rattle.tt_board.specs.inside.Chains.{name_at, OtherChainsCounted}
use Rattle.tt_board.proofs.CaptureLemmas.{Releasing}
use Rattle.tt_board.proofs.counted.chain_counts.ChainCounts.remove_chain_stones.Given as goal

abbrev pub invariant-loop-p : goal.invariant-loop-p
invariant-loop-p l = record {
  wide : length l.self.names ≡ 361;
  releasing : Releasing l.fn.size l.initial.self.names l.initial.points l.name l.self.names l.points l.left;
  done : (k : ℕ) → k < l.p → name_at l.self.names k ≢ l.name;
  stones : l.self.stones ≡ l.initial.self.stones;
  counted : OtherChainsCounted l.fn.size l.self.names l.self.liberties l.name;
}
