-- Stones that close the wall around a group.
use Rattle.std.specs.Prelude.{◌≡◌, ℕ, ◌<◌, ◌≤◌, List, None, Some, All, true}
use Rattle.std.specs.FinSet as set
use Rattle.tt_sgf.specs.declared.size.Size.{Size}
use Rattle.tt_sgf.specs.Sizes.{point_count}
use Rattle.tt_board.specs.declared.Colour.{Colour}
use Rattle.tt_board.specs.declared.Colour.TheVariants.{Black, White}
use Rattle.tt_board.specs.Play.{other}
use Rattle.tt_board.specs.Position.{Colouring}
use Rattle.tt_board.specs.Reach.{entry_at}
use Rattle.tt_board.specs.Setup.{AllHaveLiberties, placed}
use Rattle.tt_board.specs.Stones.{IsSetOnBoard, PointNumberSet}
use Rattle.tt_marks.specs.declared.closing_stones.Closing.{Closing}
use Rattle.tt_marks.specs.Walls.{IsClosed, IsInner, IsOfInnerGroup, IsRegion, IsWalledIn, IsWholeWall}

-- the colouring with stones of colour k added on these points
abbrev pub with_stones : Size → Colouring → Colour → PointNumberSet → Colouring
with_stones s c Black stones = placed s c stones set.empty set.empty
with_stones s c White stones = placed s c set.empty stones set.empty

-- all points of the set are empty points of the board
abbrev pub AreEmptyPoints : Size → Colouring → PointNumberSet → Type 0
AreEmptyPoints s c points = (p : ℕ) → set.contains points p ≡ true → (p < point_count s) × (entry_at c p ≡ None)

-- stones of the other colour on these points enclose the group of the stone of colour k on q: each stone has a liberty then, and the group
-- is walled in, however many points are inside
abbrev pub AreEnclosing : Size → Colouring → Colour → ℕ → PointNumberSet → Type 0
AreEnclosing s c k q stones = AllHaveLiberties s (with_stones s c (other k) stones) × IsWalledIn s (with_stones s c (other k) stones) k q

-- one stone of the other colour on the empty point p is enough: it has a liberty then, as each stone, and the group of the stone on q is
-- enclosed, with an inner region
abbrev pub EnclosesAlone : Size → Colouring → Colour → ℕ → ℕ → Type 0
EnclosesAlone s c k q p = (p < point_count s) × (entry_at c p ≡ None) × AllHaveLiberties s (with_stones s c (other k) (set.insert set.empty p))
    × IsOfInnerGroup s (with_stones s c (other k) (set.insert set.empty p)) q

-- One to three stones of the other colour on these empty points close the wall around the group of the stone of colour k that stands on q: then
-- each stone has a liberty, all of these are of the whole wall, the region of the group is this one, closed and inner, without any one of
-- these the others don't enclose the group, and where they are several no stone alone does
pub record ClosesWall (s : Size) (c : Colouring) (k : Colour) (q : ℕ) (stones region : PointNumberSet) : Type 0 where
  pub stands : entry_at c q ≡ Some k
  pub some : 0 < set.len stones
  pub few : set.len stones ≤ 3
  pub on_empty : AreEmptyPoints s c stones
  pub alive : AllHaveLiberties s (with_stones s c (other k) stones)
  pub wall : PointNumberSet
  pub wall_on_board : IsSetOnBoard s wall
  pub whole : IsWholeWall s (with_stones s c (other k) stones) k q (set.contains wall)
  pub of_wall : (p : ℕ) → set.contains stones p ≡ true → set.contains wall p ≡ true
  pub within : IsRegion s (with_stones s c (other k) stones) k q (set.contains wall) (set.contains region)
  pub on_board : IsSetOnBoard s region
  pub closed : IsClosed wall region
  pub inner : IsInner s (with_stones s c (other k) stones) region
  pub needed : (p : ℕ) → set.contains stones p ≡ true → AreEnclosing s c k q (set.remove stones p) → ⊥
  pub fewest : 1 < set.len stones → (p : ℕ) → EnclosesAlone s c k q p → ⊥

-- each of these has as many stones as the others
abbrev pub HaveAsMany : List Closing → Type 0
HaveAsMany closings = (n : ℕ) × All (λ m. set.len m.stones ≡ n) closings

-- all of these close it, by as many stones each
abbrev pub AreClosings : Size → Colouring → Colour → ℕ → List Closing → Type 0
AreClosings s c k q closings = All (λ m. ClosesWall s c k q m.stones m.region) closings × HaveAsMany closings
