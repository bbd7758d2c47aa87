use Rattle.std.proofs.Common.{◌≡◌, ◌≢◌, ◌++◌, ◌∷◌, List, [], length, take}
use Rattle.tt_sgf.specs.Sizes.{point_count}
use Rattle.tt_board.specs.Position.{Colouring, colourings}
use Rattle.tt_board.specs.Setup.{AllHaveLiberties}
use Rattle.tt_board.specs.inside.Differences.{colourings_from}
use Rattle.tt_board.specs.inside.Boards.{led}
use Rattle.tt_board.proofs.boards.board_deltas.BoardDeltas.of.Given as goal

abbrev pub invariant-loop-board : goal.invariant-loop-board
invariant-loop-board l = record {
  fits : length l.here ≡ point_count l.base.value.size;
  here : led l.base.value.points l.steps ≡ l.here;
  alive : AllHaveLiberties l.base.value.size l.here;
  ends : l.steps ≢ [] → (before : List Colouring) × (colourings_from l.base.value.points l.steps ≡ before ++ l.here ∷ []);
  boards : colourings_from l.base.value.points l.steps ≡ colourings (take l.board-index l.boards);
}
