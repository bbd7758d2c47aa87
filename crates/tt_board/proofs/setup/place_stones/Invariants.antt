use Rattle.std.proofs.Common.{◌≡◌, ℕ, ◌<◌, ◌≤◌, length}
use Rattle.tt_sgf.specs.Sizes.{point_count}
use Rattle.tt_board.specs.Reach.{entry_at}
use Rattle.tt_board.specs.Setup.{placed_entry}
use Rattle.tt_board.proofs.setup.place_stones.Given as goal

abbrev pub invariant-loop-index : goal.invariant-loop-index
invariant-loop-index l = record {
  fits : length l.points ≡ point_count l.fn.size;
  done : (k : ℕ) → k < l.index → entry_at l.points k ≡ placed_entry l.initial.points l.black l.white l.clear k;
  rest : (k : ℕ) → l.index ≤ k → entry_at l.points k ≡ entry_at l.initial.points k;
}
