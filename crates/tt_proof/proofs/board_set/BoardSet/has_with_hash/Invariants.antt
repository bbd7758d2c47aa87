use Rattle.std.proofs.Common.{◌≡◌, ℕ, ◌<◌, ◌≤◌, get_or}
use Rattle.tt_board.specs.Position.{Position}
use Rattle.tt_proof.proofs.board_set.BoardSet.has_with_hash.Given as goal

abbrev pub invariant-loop-k : goal.invariant-loop-k
invariant-loop-k l = (i : ℕ) (d : Position) → l.from ≤ i → i < l.k → get_or l.self i d ≡ l.board → ⊥
