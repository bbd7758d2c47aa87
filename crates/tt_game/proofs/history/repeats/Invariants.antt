use Rattle.std.proofs.Common.{◌≡◌, ℕ, ◌+◌, ◌<◌, ◌≤◌, length, get_or}
use Rattle.tt_game.proofs.history.repeats.Given as goal

abbrev pub invariant-loop-k : goal.invariant-loop-k
invariant-loop-k l = (j : ℕ) → j < length l.boards → length l.boards ≤ j + l.k → (get_or l.boards j l.next).points ≡ l.next.points → ⊥
