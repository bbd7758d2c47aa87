use Rattle.std.proofs.Common.{◌≡◌, ◌≤◌, ◌-◌, ◌++◌, length, take, drop, map}
use Rattle.tt_board.specs.inside.Differences.{colourings_from}
use Rattle.tt_board.specs.inside.Boards.{board_of}
use Rattle.tt_board.proofs.boards.board_deltas.BoardDeltas.equals_boards.Given as goal

abbrev pub invariant-loop-next : goal.invariant-loop-next
invariant-loop-next l = record {
  inside : l.seen ≤ length l.boards;
  behind : l.from ≤ length l.self-inside.steps;
  boards : l.self ≡ take l.seen l.boards ++ map (board_of l.size) (colourings_from l.points (drop l.from l.self-inside.steps));
}

abbrev pub decreases-loop-next : goal.decreases-loop-next
decreases-loop-next l = length l.self-inside.steps - l.from
