use Rattle.std.proofs.Common.{◌≡◌, ℕ, ◌<◌, Some, get_or}
use Rattle.tt_board.specs.Position.{Position}
use Rattle.tt_board.specs.Reach.{entry_at}
use Rattle.tt_game.proofs.history.stone_stood.Given as goal

abbrev pub invariant-loop-board : goal.invariant-loop-board
invariant-loop-board l = (k : ℕ) (d : Position) → k < l.board-index → entry_at (get_or l.boards k d).points l.p ≡ Some l.colour → ⊥
