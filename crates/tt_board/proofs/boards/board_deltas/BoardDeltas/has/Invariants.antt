use Rattle.std.proofs.Common.{◌≤◌, ◌-◌, length, drop, map, Contains}
use Rattle.tt_board.specs.Position.{Position}
use Rattle.tt_board.specs.inside.Boards.{board_of}
use Rattle.tt_board.specs.inside.Differences.{colourings_from}
use Rattle.tt_board.proofs.boards.board_deltas.BoardDeltas.has.Given as goal

abbrev pub invariant-loop-next : goal.invariant-loop-next
invariant-loop-next l = record {
  behind : l.from ≤ length l.self-inside.steps;
  held : (b : Position) → Contains (map (board_of l.size) (colourings_from l.points (drop l.from l.self-inside.steps))) b → Contains l.self b;
}

abbrev pub decreases-loop-next : goal.decreases-loop-next
decreases-loop-next l = length l.self-inside.steps - l.from
