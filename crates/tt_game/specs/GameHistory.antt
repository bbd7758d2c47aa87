-- The history of a game, of a record or of a problem: its colourings so far, and the passes in a row.
use Rattle.std.specs.Prelude.{ℕ, ◌+◌, List, [], ◌∷◌, ◌++◌}
use Rattle.tt_sgf.specs.declared.size.Size.{Size}
use Rattle.tt_board.specs.Position.{Colouring}
pub use Rattle.tt_board.specs.Position.{colourings, IsInHistory}

-- the size of the board; the colourings before the present one, oldest first; the present one; the passes in a row
pub record GameHistory : Type 0 where
  pub size : Size
  pub earlier : List Colouring
  pub present : Colouring
  pub passes : ℕ

-- all colourings so far, oldest first, the present one last
abbrev pub so_far : GameHistory → List Colouring
so_far c = c.earlier ++ c.present ∷ []

-- a play appends the colouring that it makes, and ends the count of passes
abbrev pub with_next_colouring : GameHistory → Colouring → GameHistory
with_next_colouring c next = record { size = c.size; earlier = so_far c; present = next; passes = 0 }

-- a pass appends nothing and is counted
abbrev pub with_pass : GameHistory → GameHistory
with_pass c = record { size = c.size; earlier = c.earlier; present = c.present; passes = c.passes + 1 }

-- the history that begins with this colouring
abbrev pub new_game_history : Size → Colouring → GameHistory
new_game_history size c = record { size = size; earlier = []; present = c; passes = 0 }
