use Rattle.std.proofs.Common.{◌≡◌, ◌≤◌, ◌-◌, length, drop}
use Rattle.tt_board.specs.inside.Differences.{colourings_from}
use Rattle.tt_board.specs.inside.Boards.{led}
use Rattle.tt_board.proofs.boards.differences.Differences.apply_next.Given as goal

abbrev pub invariant-loop-at : goal.invariant-loop-at
invariant-loop-at l = record {
  behind : l.from ≤ l.at;
  inside : l.at ≤ length l.self;
  fits : length l.points ≡ length l.initial.points;
  colourings : colourings_from l.initial.points (drop l.from l.self) ≡ colourings_from l.points (drop l.at l.self);
  end : led l.initial.points (drop l.from l.self) ≡ led l.points (drop l.at l.self);
}

abbrev pub decreases-loop-at : goal.decreases-loop-at
decreases-loop-at l = length l.self - l.at
