use Rattle.std.proofs.Common.{◌≢◌, ℕ, ◌<◌, ◌≤◌}
use Rattle.tt_board.specs.inside.Chains.{name_at}
use Rattle.tt_board.proofs.counted.joins.next_named.Given as goal

abbrev pub invariant-loop-p : goal.invariant-loop-p
invariant-loop-p l = (q : ℕ) → l.start ≤ q → q < l.p → name_at l.names q ≢ l.name
