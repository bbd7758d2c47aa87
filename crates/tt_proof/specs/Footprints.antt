-- The footprint of a strategy: what it rests on in the history of its state, and when it may be moved to another history
-- of the same position. Under superko a position that is reached by two paths can have two values (the graph history
-- interaction of game-tree search); a footprint says which part of a path counts.
use Rattle.std.specs.Prelude.{◌≡◌, ℕ, ◌<◌, ◌⊎◌, List, [], ◌∷◌, ◌++◌, Contains, None, IsTrue}
use Rattle.std.specs.FinSet as set
use Rattle.tt_sgf.specs.Sizes.{point_count}
use Rattle.tt_board.specs.Position.{Colouring}
use Rattle.tt_board.specs.Reach.{entry_at}
use Rattle.tt_game.specs.Game.{State, IsLegal, after, history, colouring_after_play}
use Rattle.tt_game.specs.declared.frame.Frame.{Frame}
use Rattle.tt_game.specs.declared.turns.Turn.{Turn}
use Rattle.tt_game.specs.declared.turns.Turn.TheVariants.{Play, Pass}
use Rattle.tt_proof.specs.Strategy.{Strategy, Entries, done, pick, reply, none, entry}
use Rattle.tt_proof.specs.ProofClaim.{ProofClaim}

-- the path from a state on, after one more turn: a play appends the colouring that it makes, a pass nothing
abbrev pub path_after_turn : Frame → State → Turn → List Colouring → List Colouring
path_after_turn f s Pass path = path
path_after_turn f s (Play p) path = path ++ colouring_after_play f s p ∷ []

-- the turn is a play, and makes the colouring
abbrev pub MakesColouring : Frame → State → Turn → Colouring → Type 0
MakesColouring f s Pass c = ⊥
MakesColouring f s (Play p) c = colouring_after_play f s p ≡ c

module _ (f : Frame) where
  -- a play on an empty point of the region would make the colouring, which the history h has and the path has not
  abbrev pub IsRepeatedByPlay : List Colouring → List Colouring → State → Colouring → Type 0
  IsRepeatedByPlay h path s c =
      ((p : ℕ) × (p < point_count f.size) × (entry_at s.present p ≡ None) × IsTrue (set.contains f.region p) × (colouring_after_play f s p ≡ c))
      × Contains h c × (Contains path c → ⊥)

  -- A node of the strategy is reached where each turn on the way to it is legal.
  module _ (h : List Colouring) where
    abbrev mutual
      -- the strategy needs the colouring in the history h: there it forbids a play at a reached reply, where the path alone
      -- would not
      pub IsNeeded : Strategy → List Colouring → State → Colouring → Type 0
      IsNeeded done path s c = ⊥
      IsNeeded (pick t u) path s c = IsLegal f s t × IsNeeded u (path_after_turn f s t path) (after f s t) c
      IsNeeded (reply es) path s c = IsRepeatedByPlay h path s c ⊎ IsNeededBehind es path s c

      -- so does the strategy of some entry
      pub IsNeededBehind : Entries → List Colouring → State → Colouring → Type 0
      IsNeededBehind none path s c = ⊥
      IsNeededBehind (entry t u es) path s c =
          (IsLegal f s t × IsNeeded u (path_after_turn f s t path) (after f s t) c) ⊎ IsNeededBehind es path s c

  abbrev mutual
    -- the strategy avoids the colouring: its own play at a reached pick makes it
    pub IsAvoided : Strategy → State → Colouring → Type 0
    IsAvoided done s c = ⊥
    IsAvoided (pick t u) s c = IsLegal f s t × (MakesColouring f s t c ⊎ IsAvoided u (after f s t) c)
    IsAvoided (reply es) s c = IsAvoidedBehind es s c

    -- so does the strategy of some entry
    pub IsAvoidedBehind : Entries → State → Colouring → Type 0
    IsAvoidedBehind none s c = ⊥
    IsAvoidedBehind (entry t u es) s c = (IsLegal f s t × IsAvoided u (after f s t) c) ⊎ IsAvoidedBehind es s c

  abbrev mutual
    -- the strategy meets the colouring: a legal turn of the other side that it has an entry for makes it, at a reached reply
    pub IsMet : Strategy → State → Colouring → Type 0
    IsMet done s c = ⊥
    IsMet (pick t u) s c = IsLegal f s t × IsMet u (after f s t) c
    IsMet (reply es) s c = IsMetBehind es s c

    -- so does the strategy of some entry
    pub IsMetBehind : Entries → State → Colouring → Type 0
    IsMetBehind none s c = ⊥
    IsMetBehind (entry t u es) s c = (IsLegal f s t × (MakesColouring f s t c ⊎ IsMet u (after f s t) c)) ⊎ IsMetBehind es s c

-- the strategy, from s, fits s': the position is the same, and the history has all that it needs and nothing that it avoids
pub record Fits (f : Frame) (u : Strategy) (s s' : State) : Type 0 where
  pub present : s'.present ≡ s.present
  pub to_move : s'.to_move ≡ s.to_move
  pub passes : s'.passes ≡ s.passes
  pub needs : (c : Colouring) → IsNeeded f (history s) u [] s c → Contains (history s') c
  pub avoids : (c : Colouring) → IsAvoided f u s c → Contains (history s') c → ⊥

-- the proof may be moved to this state of this frame
abbrev pub FitsAt : ProofClaim → Frame → State → Type 0
FitsAt p f s = (p.frame ≡ f) × Fits p.frame p.tree p.state s
