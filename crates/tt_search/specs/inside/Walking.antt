-- Where steps are taken, and what they may use. For private contracts and proofs.
use Rattle.std.specs.Prelude.{◌≡◌, ℕ, ◌-◌}
use Rattle.tt_game.specs.declared.frame.Frame.{Frame}
use Rattle.tt_game.specs.declared.turns.Turn.{Turn}
use Rattle.tt_game.specs.Game.{State, after}
use Rattle.tt_game.specs.Line.{LineWithUndo, IsLineAfterTurn}
use Rattle.tt_search.specs.PartialTree.{PartialTree}
use Rattle.tt_search.specs.Numbers.{IsUndecided}
use Rattle.tt_search.specs.Growing.{IsPartialTree}
use Rattle.tt_search.specs.inside.Within.{StaysWithin}
use Rattle.tt_search.specs.declared.descent.Descent.{Descent}

-- a state of a frame, with room for so many turns
pub record Stand : Type 0 where
  pub frame : Frame
  pub state : State
  pub room : ℕ

-- a tree, and what the budget has left
pub record Stage : Type 0 where
  pub tree : PartialTree
  pub left : ℕ

abbrev pub stage : PartialTree → ℕ → Stage
stage tree left = record { tree = tree; left = left }

abbrev pub stand : LineWithUndo → ℕ → Stand
stand line room = record { frame = line.frame; state = line.state; room = room }

-- where a walk stands
abbrev pub stand_of : Descent → Stand
stand_of walk = stand walk.line walk.room

-- where a turn leads
abbrev pub stand_after : Stand → Turn → Stand
stand_after at t = record { frame = at.frame; state = after at.frame at.state t; room = at.room - 1 }

-- a partial tree of the state that may grow there: undecided, and no deeper than the room
pub record MayGrow (at : Stand) (tree : PartialTree) : Type 0 where
  pub undecided : IsUndecided tree
  pub partial : IsPartialTree at.frame at.state tree
  pub stays : StaysWithin at.frame.size at.room tree

-- the walk has gone down by the turn
pub record IsDown (t : Turn) (old new : Descent) : Type 0 where
  pub line : IsLineAfterTurn old.line new.line t
  pub room : new.room ≡ old.room - 1
  pub left : new.left ≡ old.left
