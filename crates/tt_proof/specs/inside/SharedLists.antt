-- Lists of boards behind a handle.
use Rattle.std.specs.Prelude.{List, [], Option, Some, None}
use Rattle.std.specs.Arc.{arc_value}
use Rattle.std.specs.declared.sync.Arc.{Arc}
use Rattle.tt_board.specs.Position.{Position}

-- the boards behind a handle, if there is one
abbrev pub boards_behind : {Z : Type 0} → Option (Arc (List Position) Z) → List Position
boards_behind None = []
boards_behind (Some set) = arc_value set
