-- What a line keeps, and how it undoes its pushes. For private contracts and for proofs.
use Rattle.std.specs.Prelude.{◌≡◌, ℕ, ◌-◌, ◌<◌, ◌≤◌, List, [], ◌∷◌, length, take, reverse, slice_index_or}
use Rattle.tt_sgf.specs.declared.size.Size.{Size}
use Rattle.tt_board.specs.declared.Colour.{Colour}
use Rattle.tt_board.specs.Position.{Position, Colouring}
use Rattle.tt_board.specs.Play.{play_of}
use Rattle.tt_game.specs.declared.frame.Frame.{Frame}
use Rattle.tt_game.specs.declared.frame.Side.{Side}
use Rattle.tt_game.specs.declared.line.Undo.{Undo}
use Rattle.tt_game.specs.declared.line.Undo.TheVariants.{UndoPlay, UndoPass}
use Rattle.tt_game.specs.GameHistory.{GameHistory, colourings}
use Rattle.tt_game.specs.Game.{State, history, opponent}
use Rattle.tt_game.specs.Line.{LineWithUndo}

-- all but the last
abbrev pub front : List Colouring → List Colouring
front cs = take (length cs - 1) cs

-- the last colouring, or one without entries where there is none
abbrev pub last : List Colouring → Colouring
last cs = slice_index_or cs (length cs - 1) []

-- the history that boards show, the last one present
abbrev pub game_history_of : Size → List Position → ℕ → GameHistory
game_history_of size bs passes = record { size = size; earlier = front (colourings bs); present = last (colourings bs); passes = passes }

-- the history before a play that was made after so many passes
abbrev pub without_play : GameHistory → ℕ → GameHistory
without_play c passes = record { size = c.size; earlier = front c.earlier; present = last c.earlier; passes = passes }

-- the history before a pass
abbrev pub without_pass : GameHistory → GameHistory
without_pass c = record { size = c.size; earlier = c.earlier; present = c.present; passes = c.passes - 1 }

-- the state of a history at which a side moves
abbrev pub state_at : GameHistory → Side → State
state_at c side = record { earlier = c.earlier; present = c.present; to_move = side; passes = c.passes }

-- the state before a push
abbrev pub undone : State → Undo → State
undone s UndoPass = record { earlier = s.earlier; present = s.present; to_move = opponent s.to_move; passes = s.passes - 1 }
undone s (UndoPlay n) = record { earlier = front s.earlier; present = last s.earlier; to_move = opponent s.to_move; passes = n }

-- the board of a size that shows a colouring
abbrev pub board_on : Size → Colouring → Position
board_on g c = record { size = g; points = c }

-- the present board, and those before the plays that may be undone, the last play first
pub record Stack : Type 0 where
  pub present : Position
  pub below : List Position

-- the stack of a first board and of later ones, the present one at this index
abbrev pub stack_at : Position → List Position → ℕ → Stack
stack_at b bs n = record { present = slice_index_or (b ∷ bs) n b; below = reverse (take n (b ∷ bs)) }

-- each of the first so many boards behind the first one is what its play made of the board before it
abbrev pub AreMade : Position → List Position → List (Colour × ℕ) → ℕ → Type 0
AreMade b bs plays n = (k : ℕ) (play : Colour × ℕ) → k < n → play ≡ slice_index_or plays k play
    → slice_index_or bs k b ≡ board_on (slice_index_or (b ∷ bs) k b).size (play_of (slice_index_or (b ∷ bs) k b).size (slice_index_or (b ∷ bs) k b).points play.0 play.1)

-- the states before the pushes, the last push first
abbrev pub states_before : State → List Undo → List State
states_before s [] = []
states_before s (u ∷ us) = undone s u ∷ states_before (undone s u) us

-- each push can be undone: a pass was counted, a play left a board and a count, and the board before it is kept
abbrev pub IsUndoable : Size → State → List Undo → List Position → Type 0
IsUndoable g s [] bs = Unit {0}
IsUndoable g s (UndoPass ∷ us) bs = (1 ≤ s.passes) × IsUndoable g (undone s UndoPass) us bs
IsUndoable g s (UndoPlay n ∷ us) [] = ⊥
IsUndoable g s (UndoPlay n ∷ us) (b ∷ bs) =
    (1 ≤ length s.earlier) × (n ≤ 2) × (b ≡ board_on g (last s.earlier)) × IsUndoable g (undone s (UndoPlay n)) us bs

-- what a line shows, from its parts; the pushes are given the last one first
abbrev pub line_with_undo : Frame → State → List Undo → LineWithUndo
line_with_undo f s us = record { frame = f; state = s; before = states_before s us }

-- a play that made this colouring was added
abbrev pub IsMoved : LineWithUndo → LineWithUndo → Colouring → Type 0
IsMoved old new points = new ≡ record {
  frame = old.frame;
  state = record { earlier = history old.state; present = points; to_move = opponent old.state.to_move; passes = 0 };
  before = old.state ∷ old.before;
}
