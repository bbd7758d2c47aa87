use Rattle.std.proofs.Common.{◌≡◌, ◌≤◌, length, take, vec_capacity}
use Rattle.tt_game.proofs.history.History.copy.Given as goal

abbrev pub invariant-loop-board : goal.invariant-loop-board
invariant-loop-board l = record {
  copied : l.boards.items ≡ take l.board-index l.so_far;
  room : length l.so_far ≤ vec_capacity l.boards;
}
