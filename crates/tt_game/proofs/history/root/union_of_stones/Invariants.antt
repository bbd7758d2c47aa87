use Rattle.std.proofs.Common.{◌≡◌, ℕ, ◌<◌, Some, get_or, true}
use Rattle.tt_sgf.specs.Sizes.{point_count}
use Rattle.tt_sgf.specs.MachineWords.{bit_in}
use Rattle.tt_board.specs.Position.{Position}
use Rattle.tt_board.specs.Reach.{entry_at}
use Rattle.tt_game.proofs.history.root.union_of_stones.Given as goal

abbrev pub invariant-loop-board : goal.invariant-loop-board
invariant-loop-board l = (k : ℕ) (d : Position) (p : ℕ) → k < l.board-index → p < point_count (get_or l.boards k d).size
    → entry_at (get_or l.boards k d).points p ≡ Some l.colour → bit_in l.stones.words p ≡ true
