-- The rule for certificates with shared parts: each tree is played once, where it stands. What its win rests on is kept, and its
-- name may stand for it wherever that is met.
use Rattle.std.specs.Prelude.{◌≡◌, ◌↔◌, ◌⊎◌, Bool, true, false, List, [], ◌∷◌, ◌++◌, Contains, Option, Some, None, get_or}
use Rattle.tt_board.specs.Position.{Position}
use Rattle.tt_game.specs.Game.{State, IsLegal, after, history, opponent, winner_of}
use Rattle.tt_game.specs.Line.{HasBoardInHistory}
use Rattle.tt_game.specs.declared.frame.Frame.{Frame}
use Rattle.tt_game.specs.declared.frame.Side.{Side}
use Rattle.tt_game.specs.declared.turns.Turn.{Turn}
use Rattle.tt_parts.specs.declared.position_footprint.PositionFootprint.{PositionFootprint}
use Rattle.tt_parts.specs.declared.outline_replay.ReplayResult.{ReplayResult}
use Rattle.tt_parts.specs.declared.outline_replay.ReplayResult.TheVariants.{Won, Lost, Unfit}
use Rattle.tt_parts.specs.Outlines.{Outline, Branches, ended, picked, replied, part, no_branch, branch}
use Rattle.tt_proof.specs.EndRules.{at_win_or_life, MayEnd}
use Rattle.tt_proof.specs.Footprints.{IsRepeatedByPlay, MakesColouring}
use Rattle.tt_proof.specs.KeptFootprints.{board_of_colouring}

-- ---- what a tree rests on: a position, boards that a history needs, and boards that it has to avoid

module _ (f : Frame) where
  -- the position is the state's
  pub record HasPosition (s : State) (x : PositionFootprint) : Type 0 where
    pub present : x.board ≡ board_of_colouring f s.present
    pub to_move : x.to_move ≡ s.to_move
    pub passes : x.passes ≡ s.passes

  -- a tree that rests on this fits at the state: the history has all that is needed and nothing that is avoided
  pub record FootprintFits (x : PositionFootprint) (s : State) : Type 0 where
    pub position : HasPosition s x
    pub needs : (b : Position) → Contains x.needs b → HasBoardInHistory f s b
    pub avoids : (b : Position) → Contains x.avoids b → HasBoardInHistory f s b → ⊥

  -- it rests on the position alone, as an ended tree does
  pub record RestsOnPositionAlone (s : State) (x : PositionFootprint) : Type 0 where
    pub position : HasPosition s x
    pub needs : x.needs ≡ []
    pub avoids : x.avoids ≡ []

  -- it rests on the boards that plays would repeat, as a reply does besides what its branches rest on
  pub record RestsOnRepeats (s : State) (x : PositionFootprint) : Type 0 where
    pub position : HasPosition s x
    pub needs : (b : Position) → Contains x.needs b ↔ ((b.size ≡ f.size) × IsRepeatedByPlay f (history s) [] s b.points)
    pub avoids : x.avoids ≡ []

  -- the turn is a play, and makes the board
  abbrev pub MakesBoard : State → Turn → Position → Type 0
  MakesBoard s t b = (b.size ≡ f.size) × MakesColouring f s t b.points

  -- in front of a turn of the side: the board that the turn makes is no more needed, and has to be avoided
  pub record RestsBeforePick (s : State) (t : Turn) (behind x : PositionFootprint) : Type 0 where
    pub position : HasPosition s x
    pub needs : (b : Position) → Contains x.needs b ↔ (Contains behind.needs b × (MakesBoard s t b → ⊥))
    pub avoids : (b : Position) → Contains x.avoids b ↔ (Contains behind.avoids b ⊎ MakesBoard s t b)

  -- in front of a turn of the other side: that board is no more needed
  pub record RestsBeforeOpposingTurn (s : State) (t : Turn) (behind x : PositionFootprint) : Type 0 where
    pub position : HasPosition s x
    pub needs : (b : Position) → Contains x.needs b ↔ (Contains behind.needs b × (MakesBoard s t b → ⊥))
    pub avoids : x.avoids ≡ behind.avoids

-- what two trees of one position rest on together
pub record RestsOnBoth (x y z : PositionFootprint) : Type 0 where
  pub board : z.board ≡ x.board
  pub to_move : z.to_move ≡ x.to_move
  pub passes : z.passes ≡ x.passes
  pub needs : (b : Position) → Contains z.needs b ↔ (Contains x.needs b ⊎ Contains y.needs b)
  pub avoids : (b : Position) → Contains z.avoids b ↔ (Contains x.avoids b ⊎ Contains y.avoids b)

-- ---- what is found on trees: a win that rests on something, none, or a part that doesn't fit

-- of two trees together: a part that doesn't fit comes first, and then no win
abbrev pub CombinesTo : ReplayResult → ReplayResult → ReplayResult → Type 0
CombinesTo Unfit b r = r ≡ Unfit
CombinesTo Lost Unfit r = r ≡ Unfit
CombinesTo Lost Lost r = r ≡ Lost
CombinesTo Lost (Won y) r = r ≡ Lost
CombinesTo (Won x) Unfit r = r ≡ Unfit
CombinesTo (Won x) Lost r = r ≡ Lost
CombinesTo (Won x) (Won y) r = (z : PositionFootprint) × ((r ≡ Won z) × RestsOnBoth x y z)

-- in front of a turn, by what is found behind it: a win rests on what the relation says
abbrev pub IsResultBeforeTurn : (PositionFootprint → PositionFootprint → Type 0) → ReplayResult → ReplayResult → Type 0
IsResultBeforeTurn Rests (Won x) r = (y : PositionFootprint) × ((r ≡ Won y) × Rests x y)
IsResultBeforeTurn Rests Lost r = r ≡ Lost
IsResultBeforeTurn Rests Unfit r = r ≡ Unfit

-- the turn has a branch
abbrev pub HasBranch : Branches → Turn → Type 0
HasBranch no_branch t = ⊥
HasBranch (branch t' o bs) t = (t' ≡ t) ⊎ HasBranch bs t

-- what the trees of all names so far rest on; none where the tree isn't reached or doesn't win: it fits nowhere
abbrev pub NamedFootprints : Type 0
NamedFootprints = List (Option PositionFootprint)

abbrev pub kept_footprint : ReplayResult → Option PositionFootprint
kept_footprint (Won x) = Some x
kept_footprint Lost = None
kept_footprint Unfit = None

-- whether the tree wins; none where a part doesn't fit
abbrev pub wins_if_fit : ReplayResult → Option Bool
wins_if_fit (Won x) = Some true
wins_if_fit Lost = Some false
wins_if_fit Unfit = None

-- one more where the tree has a name
abbrev pub with_named_footprint : Bool → Option PositionFootprint → NamedFootprints → NamedFootprints
with_named_footprint true n ns = ns ++ n ∷ []
with_named_footprint false n ns = ns

abbrev mutual
  -- all names behind an outline that no play reaches
  pub with_unreached_names : NamedFootprints → Outline → NamedFootprints
  with_unreached_names ns ended = ns
  with_unreached_names ns (picked n t o) = with_named_footprint n None (with_unreached_names ns o)
  with_unreached_names ns (replied n bs) = with_named_footprint n None (with_unreached_branch_names ns bs)
  with_unreached_names ns (part k) = ns

  pub with_unreached_branch_names : NamedFootprints → Branches → NamedFootprints
  with_unreached_branch_names ns no_branch = ns
  with_unreached_branch_names ns (branch t o bs) = with_unreached_branch_names (with_unreached_names ns o) bs

module _ (f : Frame) where
  -- on the tree with a name, where the name stands for it
  abbrev pub IsResultOfPart : Option PositionFootprint → State → ReplayResult → Type 0
  IsResultOfPart n s (Won x) = (n ≡ Some x) × FootprintFits f x s
  IsResultOfPart n s Lost = ⊥
  IsResultOfPart n s Unfit = (x : PositionFootprint) → n ≡ Some x → FootprintFits f x s → ⊥

  -- on a reply, by what is found on all its branches: each legal turn needs one
  abbrev pub IsResultOfReply : State → Branches → ReplayResult → ReplayResult → Type 0
  IsResultOfReply s bs (Won x) (Won y) = (x ≡ y) × ((t : Turn) → IsLegal f s t → HasBranch bs t)
  IsResultOfReply s bs (Won x) Lost = ((t : Turn) → IsLegal f s t → HasBranch bs t) → ⊥
  IsResultOfReply s bs (Won x) Unfit = ⊥
  IsResultOfReply s bs Lost r = r ≡ Lost
  IsResultOfReply s bs Unfit r = r ≡ Unfit

module _ (side : Side) (f : Frame) where
  -- on an ended tree
  abbrev pub IsResultOfDone : State → ReplayResult → Type 0
  IsResultOfDone s (Won x) = MayEnd at_win_or_life side f s × RestsOnPositionAlone f s x
  IsResultOfDone s Lost = MayEnd at_win_or_life side f s → ⊥
  IsResultOfDone s Unfit = ⊥

  -- on a node, by what is found behind it. Where no play leads on, the names are those that are skipped.
  module _ (s : State) (Behind : ReplayResult → NamedFootprints → Type 0) (skipped : NamedFootprints) (r : ReplayResult) (ms : NamedFootprints) where
    -- on a pick: the side is to move, and the turn is legal; else it doesn't win
    abbrev pub IsReplayOfPick : Turn → Type 0
    IsReplayOfPick t =
        ((s.to_move ≡ side) × IsLegal f s t × ((q : ReplayResult) × (Behind q ms × IsResultBeforeTurn (RestsBeforePick f s t) q r)))
        ⊎ ((s.to_move ≡ side → IsLegal f s t → ⊥) × (r ≡ Lost) × (ms ≡ skipped))

    -- on a branch: its turn is legal; else it rests on the position alone
    abbrev pub IsReplayOfBranch : Turn → Type 0
    IsReplayOfBranch t =
        (IsLegal f s t × ((q : ReplayResult) × (Behind q ms × IsResultBeforeTurn (RestsBeforeOpposingTurn f s t) q r)))
        ⊎ ((IsLegal f s t → ⊥) × ((x : PositionFootprint) × ((r ≡ Won x) × RestsOnPositionAlone f s x)) × (ms ≡ skipped))

    -- on a reply: nobody has won, and the other side is to move; else it doesn't win
    abbrev pub IsReplayOfReply : Branches → Type 0
    IsReplayOfReply bs =
        ((winner_of f s ≡ None) × (s.to_move ≡ opponent side) × ((q : ReplayResult) × (Behind q ms × IsResultOfReply f s bs q r)))
        ⊎ ((winner_of f s ≡ None → s.to_move ≡ opponent side → ⊥) × (r ≡ Lost) × (ms ≡ skipped))

  -- on branches, with what plays would repeat
  abbrev pub IsReplayOfBranchesAndRepeats : State → (ReplayResult → NamedFootprints → Type 0) → ReplayResult → NamedFootprints → Type 0
  IsReplayOfBranchesAndRepeats s Behind r ms = (x : PositionFootprint) × (RestsOnRepeats f s x × ((q : ReplayResult) × (Behind q ms × CombinesTo (Won x) q r)))

  abbrev mutual
    -- on an outline at a state, by what the names before it rest on; the last list says what all names behind it rest on
    pub IsReplayOfOutline : NamedFootprints → Outline → State → ReplayResult → NamedFootprints → Type 0
    IsReplayOfOutline ns ended s r ms = IsResultOfDone s r × (ms ≡ ns)
    IsReplayOfOutline ns (picked n t o) s r ms =
        (ls : NamedFootprints) × ((ms ≡ with_named_footprint n (kept_footprint r) ls) × IsReplayOfPick s (IsReplayOfOutline ns o (after f s t)) (with_unreached_names ns o) r ls t)
    IsReplayOfOutline ns (replied n bs) s r ms =
        (ls : NamedFootprints) × ((ms ≡ with_named_footprint n (kept_footprint r) ls)
        × IsReplayOfReply s (IsReplayOfBranchesAndRepeats s (IsReplayOfBranches ns bs s)) (with_unreached_branch_names ns bs) r ls bs)
    IsReplayOfOutline ns (part k) s r ms = IsResultOfPart f (get_or ns k None) s r × (ms ≡ ns)

    -- on branches together
    pub IsReplayOfBranches : NamedFootprints → Branches → State → ReplayResult → NamedFootprints → Type 0
    IsReplayOfBranches ns no_branch s r ms = ((x : PositionFootprint) × ((r ≡ Won x) × RestsOnPositionAlone f s x)) × (ms ≡ ns)
    IsReplayOfBranches ns (branch t o bs) s r ms =
        (q : ReplayResult) × ((p : ReplayResult) × ((ls : NamedFootprints) × (
        IsReplayOfBranch s (IsReplayOfOutline ns o (after f s t)) (with_unreached_names ns o) q ls t × IsReplayOfBranches ls bs s p ms × CombinesTo q p r)))

  -- the answer on a whole outline
  abbrev pub IsOutlineAnswer : Outline → State → Option Bool → Type 0
  IsOutlineAnswer o s a = (r : ReplayResult) × ((ms : NamedFootprints) × (IsReplayOfOutline [] o s r ms × (a ≡ wins_if_fit r)))
