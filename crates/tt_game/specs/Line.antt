-- Lines: a frame, a state, and what pops lead back to. Why a turn is refused, and what a push does.
use Rattle.std.specs.Prelude.{◌≡◌, ◌≢◌, ℕ, ◌<◌, List, [], ◌∷◌, None, IsTrue}
use Rattle.std.specs.FinSet as set
use Rattle.tt_sgf.specs.Sizes.{point_count}
use Rattle.tt_board.specs.Position.{Position}
use Rattle.tt_board.specs.Reach.{entry_at}
use Rattle.tt_board.specs.Stones.{IsSetOnBoard}
use Rattle.tt_game.specs.declared.faults.Why.{Why}
use Rattle.tt_game.specs.declared.faults.Why.TheVariants.{Over, Occupied, Outside, Repeats}
use Rattle.tt_game.specs.declared.faults.Refused.{Refused}
use Rattle.tt_game.specs.declared.faults.Refused.TheVariants.{Illegal, NoMemory}
use Rattle.tt_game.specs.declared.frame.Frame.{Frame}
use Rattle.tt_game.specs.declared.turns.Turn.{Turn}
use Rattle.tt_game.specs.declared.turns.Turn.TheVariants.{Play, Pass}
use Rattle.tt_game.specs.GameHistory.{IsInHistory}
use Rattle.tt_game.specs.Game.{State, history, winner_of, colouring_after_play, IsLegal, after}

-- a problem has some target, and all are on its board
abbrev pub HasTargetsOnBoard : Frame → Type 0
HasTargetsOnBoard f = (0 < set.len f.targets) × IsSetOnBoard f.size f.targets

-- the play of the side to move on p, an empty point of the region, repeats a colouring of the history
abbrev pub IsBarredBySuperko : Frame → State → ℕ → Type 0
IsBarredBySuperko f s p = (p < point_count f.size) × (entry_at s.present p ≡ None) × IsTrue (set.contains f.region p) × IsInHistory (history s) (colouring_after_play f s p)

-- a frame, a state, and the states before the pushes that may be undone, the last one first
pub record LineWithUndo : Type 0 where
  pub frame : Frame
  pub state : State
  pub before : List State

-- the problem after a turn, which alone may be undone
abbrev pub problem_after_turn : LineWithUndo → Turn → LineWithUndo
problem_after_turn p t = record { frame = p.frame; state = after p.frame p.state t; before = p.state ∷ [] }

-- where a line stood: its frame and its state
pub record SnapshotState : Type 0 where
  pub frame : Frame
  pub state : State

-- the state is of that frame, and has the present colouring, the side to move and the passes that stood there
abbrev pub IsPositionOf : SnapshotState → Frame → State → Type 0
IsPositionOf p f s = (p.frame ≡ f) × (s.present ≡ p.state.present) × (s.to_move ≡ p.state.to_move) × (s.passes ≡ p.state.passes)

-- the history of the state has the board: it is the frame's, with a colouring that has been
abbrev pub HasBoardInHistory : Frame → State → Position → Type 0
HasBoardInHistory f s b = (b.size ≡ f.size) × IsInHistory (history s) b.points

-- why a turn is refused: the first cause that holds
abbrev pub IsRefusalOfTurn : Frame → State → Turn → Why → Type 0
IsRefusalOfTurn f s t Over = winner_of f s ≢ None
IsRefusalOfTurn f s Pass Occupied = ⊥
IsRefusalOfTurn f s (Play p) Occupied = (winner_of f s ≡ None) × (entry_at s.present p ≢ None)
IsRefusalOfTurn f s Pass Outside = ⊥
IsRefusalOfTurn f s (Play p) Outside = (winner_of f s ≡ None) × (entry_at s.present p ≡ None) × (IsTrue (set.contains f.region p) → ⊥)
IsRefusalOfTurn f s Pass Repeats = ⊥
IsRefusalOfTurn f s (Play p) Repeats = (winner_of f s ≡ None) × IsBarredBySuperko f s p

-- an error of a push
abbrev pub IsPushError : Frame → State → Turn → Refused → Type 0
IsPushError f s t (Illegal why) = IsRefusalOfTurn f s t why
IsPushError f s t NoMemory = IsLegal f s t

-- the turn was made, and the state before it may be undone to
abbrev pub IsLineAfterTurn : LineWithUndo → LineWithUndo → Turn → Type 0
IsLineAfterTurn old new t = new ≡ record { frame = old.frame; state = after old.frame old.state t; before = old.state ∷ old.before }
