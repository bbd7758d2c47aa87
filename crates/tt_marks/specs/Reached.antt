-- Sets of points, and what is reached over adjacent points.
use Rattle.std.specs.Prelude.{◌≡◌, ℕ, ◌<◌, Bool, true}
use Rattle.tt_sgf.specs.declared.size.Size.{Size}
use Rattle.tt_sgf.specs.Sizes.{point_count}
use Rattle.tt_board.specs.Near.{IsNeighbour}

-- a set of points, as the test of what is in it
abbrev pub PointTest : Type 0
PointTest = ℕ → Bool

-- the set has the point
abbrev pub Has : PointTest → ℕ → Type 0
Has points p = points p ≡ true

-- p is a first point, or a free point adjacent to one that is reached
pub data IsReached (s : Size) (IsFree IsFirst : ℕ → Type 0) : ℕ → Type 0 where
  first : (p : ℕ) → p < point_count s → IsFirst p → IsReached s IsFree IsFirst p
  next : (p q : ℕ) → p < point_count s → IsFree p → IsNeighbour s p q → IsReached s IsFree IsFirst q → IsReached s IsFree IsFirst p
