use Rattle.std.proofs.Common.{◌≢◌, ℕ, ◌<◌}
use Rattle.std.specs.FinSet as set
use Rattle.tt_marks.specs.Reached.{Has}
use Rattle.tt_marks.specs.Walls.{HasStone}
use Rattle.tt_marks.proofs.proposals.is_lone.Given as goal

abbrev pub invariant-loop-number : goal.invariant-loop-number
invariant-loop-number l = (p : ℕ) → p < l.number
    → (p ≢ l.stone) × HasStone l.board.size l.board.points l.colour p × Has (set.contains l.near) p → ⊥
