-- What holds of the definitions themselves.
use Rattle.std.specs.Prelude.{ℕ, ◌<◌, ◌↔◌, Option, IsTrue}
use Rattle.tt_board.specs.declared.Colour.{Colour}
use Rattle.tt_sgf.specs.declared.size.Size.{Size}
use Rattle.tt_sgf.specs.Sizes.{point_count}
use Rattle.tt_board.specs.Position.{Colouring}
use Rattle.tt_board.specs.Reach.{Reaches}
use Rattle.tt_board.specs.Decided.{reaches}

-- `reaches` is true exactly of the points from which a path leads
abbrev pub ReachesTestIsExact : Type 0
ReachesTestIsExact = (s : Size) (c : Colouring) (p : ℕ) (e : Option Colour) → p < point_count s → IsTrue (reaches s c p e) ↔ Reaches s c p e
