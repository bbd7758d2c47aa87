-- Footprints as they are kept: as lists of boards, and a bound.
use Rattle.std.specs.Prelude.{◌≡◌, ◌↔◌, ℕ, List, [], ◌∷◌, ◌++◌, Contains, IsTrue}
use Rattle.std.specs.FinSet as set
use Rattle.tt_board.specs.Stones.{PointNumberSet}
use Rattle.tt_board.specs.Position.{Position, Colouring}
use Rattle.tt_game.specs.Game.{State, IsLegal, after, history}
use Rattle.tt_game.specs.declared.frame.Frame.{Frame}
use Rattle.tt_game.specs.declared.frame.Side.{Side}
use Rattle.tt_game.specs.declared.turns.Turn.{Turn}
use Rattle.tt_game.specs.declared.turns.Turn.TheVariants.{Play}
use Rattle.tt_proof.specs.declared.footprints.Footprint.{Footprint}
use Rattle.tt_proof.specs.BoardSetBounds.{MayContainBoard}
use Rattle.tt_proof.specs.Strategy.{Strategy, reply, entries_of}
use Rattle.tt_proof.specs.Footprints.{IsNeeded, IsAvoided, IsMet}
use Rattle.tt_proof.specs.EndRules.{EndRule}
use Rattle.tt_proof.specs.ProofClaim.{IsWinningTreeUnder}

-- the frame's board with this colouring
abbrev pub board_of_colouring : Frame → Colouring → Position
board_of_colouring f c = record { size = f.size; points = c }

-- the boards are the frame's
abbrev pub HaveFrameSize : Frame → List Position → Type 0
HaveFrameSize f bs = (b : Position) → Contains bs b → b.size ≡ f.size

-- the footprint is that of the strategy at the state: its boards are exactly those of the colourings that the strategy needs
-- in the history, and exactly those of the colourings that it avoids; the board of each colouring that
-- it meets lies within the bound
pub record IsFootprint (f : Frame) (s : State) (u : Strategy) (x : Footprint) : Type 0 where
  pub needs_sized : HaveFrameSize f x.needs
  pub avoids_sized : HaveFrameSize f x.avoids
  pub needed : (c : Colouring) → Contains x.needs (board_of_colouring f c) ↔ IsNeeded f (history s) u [] s c
  pub avoided : (c : Colouring) → Contains x.avoids (board_of_colouring f c) ↔ IsAvoided f u s c
  pub met : (c : Colouring) → IsMet f u s c → MayContainBoard x.met (board_of_colouring f c)

-- a play on each point of the set is legal
abbrev pub AreLegalPlays : Frame → State → PointNumberSet → Type 0
AreLegalPlays f s points = (p : ℕ) → IsTrue (set.contains points p) → IsLegal f s (Play p)

-- the board is the one after the turn
abbrev pub IsBoardAfter : Frame → State → Turn → Position → Type 0
IsBoardAfter f s t b = b ≡ board_of_colouring f (after f s t).present

-- the footprint of a reply has become that with one more entry behind the others, whichever these are
abbrev pub IsEntryJoined : Frame → State → Turn → Strategy → Footprint → Footprint → Type 0
IsEntryJoined f s t u old new =
    (es : List (Turn × Strategy)) → IsFootprint f s (reply (entries_of es)) old → IsFootprint f s (reply (entries_of (es ++ (t, u) ∷ []))) new

-- the tree wins for the side from the state, by the rule on where it may end, and the footprint is its own
pub record WinsWithFootprint (rule : EndRule) (side : Side) (f : Frame) (s : State) (u : Strategy) (x : Footprint) : Type 0 where
  pub won : IsWinningTreeUnder rule side f s u
  pub footprint : IsFootprint f s u x
