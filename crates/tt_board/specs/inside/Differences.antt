-- Colourings kept by their differences: edits that lead from a base to each of them in turn.
use Rattle.std.specs.Prelude.{List, [], ◌∷◌, ◌++◌, Some, None, slice_set}
use Rattle.tt_board.specs.declared.Colour.{Colour}
use Rattle.tt_board.specs.declared.boards.differences.Edit.{Edit}
use Rattle.tt_board.specs.declared.boards.differences.Edit.TheVariants.{Black, White, Empty, Whole}
use Rattle.tt_board.specs.Position.{Colouring}

-- a colouring after an edit; an edit past the last point changes none
abbrev pub edited : Colouring → Edit → Colouring
edited c (Black p) = slice_set c p (Some Colour.Black)
edited c (White p) = slice_set c p (Some Colour.White)
edited c (Empty p) = slice_set c p None
edited c Whole = c

-- the colouring that an edit finishes
abbrev pub finished : Colouring → Edit → List Colouring
finished c (Black p) = []
finished c (White p) = []
finished c (Empty p) = []
finished c Whole = c ∷ []

-- the colourings to which edits lead from a base, in their order
abbrev pub colourings_from : Colouring → List Edit → List Colouring
colourings_from c [] = []
colourings_from c (e ∷ es) = finished c e ++ colourings_from (edited c e) es
