-- What a board shows (the Tromp-Taylor rules of Go: each point of the grid is black, white or empty).
use Rattle.std.specs.Prelude.{List, Option, map, Contains}
use Rattle.tt_board.specs.declared.Colour.{Colour}
use Rattle.tt_sgf.specs.declared.size.Size.{Size}

-- an entry for each point, row by row: the colour of its stone, or none
abbrev pub Colouring : Type 0
Colouring = List (Option Colour)

-- a size, and a colouring of its points
pub record Position : Type 0 where
  pub size : Size
  pub points : Colouring

-- the colourings of boards
abbrev pub colourings : List Position → List Colouring
colourings bs = map (λ b. b.points) bs

-- the colouring is in the history: positional superko bars a play that makes it
abbrev pub IsInHistory : List Colouring → Colouring → Type 0
IsInHistory history c = Contains history c
