-- A group, the wall around it, and the region within.
use Rattle.std.specs.Prelude.{◌≡◌, ◌≢◌, ◌⊎◌, ℕ, ◌<◌, ◌≤◌, ◌↔◌, None, Some, true, false}
use Rattle.std.specs.FinSet as set
use Rattle.tt_sgf.specs.declared.size.Size.{Size}
use Rattle.tt_sgf.specs.Points.{passing}
use Rattle.tt_sgf.specs.Sizes.{point_count}
use Rattle.tt_board.specs.declared.Colour.{Colour}
use Rattle.tt_board.specs.Near.{IsNeighbour}
use Rattle.tt_board.specs.Play.{is_empty, is_stone_of, other}
use Rattle.tt_board.specs.Position.{Colouring}
use Rattle.tt_board.specs.Reach.{entry_at}
use Rattle.tt_board.specs.Stones.{IsSetOnBoard, PointNumberSet}
use Rattle.tt_marks.specs.declared.regions.TheConstants.{FEWEST_ENCLOSED_POINTS, MOST_ENCLOSED_POINTS}
use Rattle.tt_marks.specs.Reached.{Has, IsReached, PointTest}

module _ (s : Size) (c : Colouring) where
  -- a stone of colour k stands on p
  abbrev pub HasStone : Colour → ℕ → Type 0
  HasStone k p = is_stone_of (entry_at c p) k ≡ true

  -- p is of the group of the stone of colour k on q: the chain of that stone
  abbrev pub IsOfGroup : Colour → ℕ → ℕ → Type 0
  IsOfGroup k q p = IsReached s (HasStone k) (λ r. r ≡ q) p

  -- a stone of colour k on p is beside an empty point that isn't inside
  abbrev pub IsBesideOutside : Colour → (ℕ → Type 0) → ℕ → Type 0
  IsBesideOutside k IsInside p = HasStone k p × ((e : ℕ) × IsNeighbour s p e × (entry_at c e ≡ None) × (IsInside e → ⊥))

  -- the chain of the stone of colour k on p has a liberty that isn't inside: plays inside don't take it
  abbrev pub HasOuterLiberty : Colour → (ℕ → Type 0) → ℕ → Type 0
  HasOuterLiberty k IsInside p = IsReached s (HasStone k) (IsBesideOutside k IsInside) p

-- another stone of colour k than that on q is of its group or in the region
abbrev pub HasOtherStone : Size → Colouring → Colour → ℕ → PointNumberSet → Type 0
HasOtherStone s c k q region = (p : ℕ) × (p < point_count s) × (p ≢ q) × HasStone s c k p × (IsOfGroup s c k q p ⊎ Has (set.contains region) p)

-- what is within these stones: what is reached from the point q without passing one of them
abbrev pub IsWithin : Size → ℕ → PointTest → ℕ → Type 0
IsWithin s q stones p = IsReached s (λ r. stones r ≡ false) (λ r. r ≡ q) p

module _ (s : Size) (c : Colouring) (k : Colour) (q : ℕ) where
  -- a wall around the group of the stone of colour k on q: stones of the other colour that plays within them don't take
  abbrev pub IsWall : PointTest → Type 0
  IsWall stones = (p : ℕ) → p < point_count s → Has stones p → HasOuterLiberty s c (other k) (IsWithin s q stones) p

  -- the whole wall: it has each stone of each wall around the group
  pub record IsWholeWall (wall : PointTest) : Type 0 where
    pub is_wall : IsWall wall
    pub whole : (stones : PointTest) → IsWall stones → (p : ℕ) → p < point_count s → Has stones p → Has wall p

  -- the region of the group: what is within its whole wall but the group
  abbrev pub IsRegion : PointTest → PointTest → Type 0
  IsRegion wall points = (p : ℕ) → p < point_count s → Has points p ↔ (IsWithin s q wall p × (IsOfGroup s c k q p → ⊥))

-- the empty points
abbrev pub empty_set : Size → Colouring → PointNumberSet
empty_set s c = passing (λ p. is_empty (entry_at c p)) (point_count s)

-- a region has so many points that it's worth a question and can be answered
abbrev pub IsFitCount : ℕ → Type 0
IsFitCount points = (FEWEST_ENCLOSED_POINTS ≤ points) × (points ≤ MOST_ENCLOSED_POINTS)

-- the region is closed: its wall has a stone, and it has neither too few points nor too many
abbrev pub IsClosed : PointNumberSet → PointNumberSet → Type 0
IsClosed wall points = (0 < set.len wall) × IsFitCount (set.len points)

-- no more empty points are in the region than outside: else the wall is what stands inside
abbrev pub IsInner : Size → Colouring → PointNumberSet → Type 0
IsInner s c points = set.len (set.intersection points (empty_set s c)) ≤ set.len (set.difference (empty_set s c) points)

-- The group of the stone of colour k on q is enclosed, with this region: that is closed, within the whole wall
pub record IsEnclosedGroup (s : Size) (c : Colouring) (k : Colour) (q : ℕ) (region : PointNumberSet) : Type 0 where
  pub is_point : q < point_count s
  pub stands : entry_at c q ≡ Some k
  pub wall : PointNumberSet
  pub wall_on_board : IsSetOnBoard s wall
  pub whole : IsWholeWall s c k q (set.contains wall)
  pub within : IsRegion s c k q (set.contains wall) (set.contains region)
  pub on_board : IsSetOnBoard s region
  pub closed : IsClosed wall region

-- the group of the stone on q is enclosed, with an inner region
abbrev pub IsOfInnerGroup : Size → Colouring → ℕ → Type 0
IsOfInnerGroup s c q = (k : Colour) × (region : PointNumberSet) × IsEnclosedGroup s c k q region × IsInner s c region

-- The group of the stone of colour k on q is walled in: its whole wall has a stone, and its region is inner, however many points it has
pub record IsWalledIn (s : Size) (c : Colouring) (k : Colour) (q : ℕ) : Type 0 where
  pub wall : PointNumberSet
  pub wall_on_board : IsSetOnBoard s wall
  pub whole : IsWholeWall s c k q (set.contains wall)
  pub has_stone : 0 < set.len wall
  pub region : PointNumberSet
  pub within : IsRegion s c k q (set.contains wall) (set.contains region)
  pub on_board : IsSetOnBoard s region
  pub inner : IsInner s c region
