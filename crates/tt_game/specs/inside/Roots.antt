-- What lines of one beginning share, and what is kept of them. For private contracts and for proofs.
use Rattle.std.specs.Prelude.{◌≡◌, ℕ, ◌<◌, List, [], ◌∷◌, length, take, All, Some, true}
use Rattle.tt_sgf.specs.Sizes.{point_count}
use Rattle.tt_sgf.specs.MachineWords.{bit_in}
use Rattle.tt_board.specs.declared.Colour.{Colour}
use Rattle.tt_board.specs.Position.{Position, Colouring}
use Rattle.tt_board.specs.Reach.{entry_at}
use Rattle.tt_game.specs.declared.frame.Frame.{Frame}
use Rattle.tt_game.specs.GameHistory.{IsInHistory, colourings}
use Rattle.tt_game.specs.declared.line.Undo.{Undo}
use Rattle.tt_game.specs.Game.{State, history}
use Rattle.tt_game.specs.inside.Undoing.{undone}

-- a frame, and the boards that lines had when the first of them began, oldest first
pub record Rooted : Type 0 where
  pub frame : Frame
  pub begun : List Position

-- a history begins with the colourings of these boards
abbrev pub BoardsBegin : List Position → List Colouring → Type 0
BoardsBegin begun h = take (length begun) h ≡ colourings begun

-- the histories of a state, and of the states that pops lead back to, begin with these boards
abbrev pub AreRooted : List Position → State → List Undo → Type 0
AreRooted begun s [] = BoardsBegin begun (history s)
AreRooted begun s (u ∷ us) = BoardsBegin begun (history s) × AreRooted begun (undone s u) us

-- the bits are 1 of all points where a stone of this colour stands on one of these boards; of others they may be 1 too
abbrev pub AreStonesOf : Colour → List Position → List ℕ → Type 0
AreStonesOf k bs words =
    (c : Colouring) (p : ℕ) → IsInHistory (colourings bs) c → All (λ (b : Position). p < point_count b.size) bs → entry_at c p ≡ Some k → bit_in words p ≡ true
