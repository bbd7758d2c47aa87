use Rattle.std.proofs.Common.{◌≡◌, ℕ, ◌-◌, ◌<◌, ◌≤◌, ◌&&◌, false}
use Rattle.std.specs.FinSet as set
use Rattle.tt_sgf.specs.declared.size.TheConstants.{MOST_POINTS}
use Rattle.tt_board.specs.Reach.{entry_at}
use Rattle.tt_game.specs.Faults.{has_entry}
use Rattle.tt_game.proofs.least_points.least_with_entry.Given as goal

abbrev pub invariant-loop-p : goal.invariant-loop-p
invariant-loop-p l = record {
  before : (q : ℕ) → q < l.from → (set.contains l.points q && has_entry l.entry (entry_at l.board.points q)) ≡ false;
  most : l.from ≤ MOST_POINTS;
}

abbrev pub decreases-loop-p : goal.decreases-loop-p
decreases-loop-p l = MOST_POINTS - l.from
