-- Point lists of SGF FF[4] (https://www.red-bean.com/sgf/sgf4.html, "How to handle point lists", and go.html): points,
-- and rectangles by two opposite corners. Unlike there, an entry may repeat a point, corners come in any order, and a
-- rectangle may be one point.
use Rattle.std.specs.Prelude.{◌≡◌, ℕ, ◌+◌, ◌-◌, ◌*◌, ◌/◌, ◌%◌, ◌<◌, ◌≤◌, min, max, Bool, false, cond, ◌⊎◌, nat_le, nat_lt, ◌&&◌, ◌==◌, List, [], ◌∷◌, Option, Some, None}
use Rattle.std.specs.List.{list_any, list_all}
use Rattle.std.specs.Option.{is_some}
use Rattle.std.specs.Ordering.{nat_cmp}
use Rattle.std.specs.FinSet as set
use Rattle.tt_sgf.specs.Bytes.{colon, lower_a}
use Rattle.tt_sgf.specs.declared.size.Size.{Size}
use Rattle.tt_sgf.specs.declared.size.TheConstants.{MOST_POINTS}
use Rattle.tt_sgf.specs.declared.point_lists.Rectangle.{Rectangle}
use Rattle.tt_sgf.specs.Points.{passing}
use Rattle.tt_sgf.specs.Values.{StandsAloneIn, are_letters_on_board, trimmed}

-- ---- what entries mean

-- the columns c and d and the rows r and s of two opposite corners; one point is both of them
pub record IsEntryWithCorners (size : Size) (bytes : List ℕ) (c r d s : ℕ) : Type 0 where
  pub c_in : c < size.columns
  pub r_in : r < size.rows
  pub d_in : d < size.columns
  pub s_in : s < size.rows
  pub stands : ((d ≡ c) × (s ≡ r) × StandsAloneIn ((lower_a + c) ∷ (lower_a + r) ∷ []) bytes)
      ⊎ StandsAloneIn ((lower_a + c) ∷ (lower_a + r) ∷ colon ∷ (lower_a + d) ∷ (lower_a + s) ∷ []) bytes

-- the value is an entry
abbrev pub IsPointOrRectangle : Size → List ℕ → Type 0
IsPointOrRectangle size bytes = (c : ℕ) × (r : ℕ) × (d : ℕ) × (s : ℕ) × IsEntryWithCorners size bytes c r d s

-- the point lies in the rectangle of an entry, whichever corners they are
pub record Covers (size : Size) (bytes : List ℕ) (p : ℕ) : Type 0 where
  pub corners : IsPointOrRectangle size bytes
  pub column : ℕ
  pub row : ℕ
  pub column_from : min corners.0 corners.2 ≤ column
  pub column_to : column ≤ max corners.0 corners.2
  pub row_from : min corners.1 corners.3 ≤ row
  pub row_to : row ≤ max corners.1 corners.3
  pub number : p ≡ row * size.columns + column

-- some entry covers the point
abbrev pub SomeEntryCovers : Size → List (List ℕ) → ℕ → Type 0
SomeEntryCovers size [] p = ⊥
SomeEntryCovers size (v ∷ vs) p = Covers size v p ⊎ SomeEntryCovers size vs p

-- each value is an entry
abbrev pub AreEntries : Size → List (List ℕ) → Type 0
AreEntries size [] = Unit {0}
AreEntries size (v ∷ vs) = IsPointOrRectangle size v × AreEntries size vs

-- ---- the same as functions, for definitions that compute with sets; the contract of `point_set` says that both agree

-- the rectangle with these two corners
abbrev pub rectangle_between : ℕ → ℕ → ℕ → ℕ → Rectangle
rectangle_between c r d s = record { left = min c d; right = max c d; top = min r s; bottom = max r s }

-- the rectangle that a text names
unfoldable pub rectangle_of_text : Size → List ℕ → Option Rectangle
rectangle_of_text size [] = None
rectangle_of_text size (c ∷ []) = None
rectangle_of_text size (c ∷ r ∷ []) = cond (are_letters_on_board size c r) (Some (rectangle_between (c - lower_a) (r - lower_a) (c - lower_a) (r - lower_a))) None
rectangle_of_text size (c ∷ r ∷ m ∷ []) = None
rectangle_of_text size (c ∷ r ∷ m ∷ d ∷ []) = None
rectangle_of_text size (c ∷ r ∷ m ∷ d ∷ s ∷ []) =
    cond (m == colon) (cond (are_letters_on_board size c r) (cond (are_letters_on_board size d s) (Some (rectangle_between (c - lower_a) (r - lower_a) (d - lower_a) (s - lower_a))) None) None) None
rectangle_of_text size (c ∷ r ∷ m ∷ d ∷ s ∷ x ∷ xs) = None

-- the number is that of a point in the rectangle, on a board with so many columns
unfoldable pub in_rectangle : ℕ → Rectangle → ℕ → Bool
in_rectangle columns e q = (nat_le e.left (q % columns) && nat_le (q % columns) e.right) && (nat_le e.top (q / columns) && nat_le (q / columns) e.bottom)

-- the number is that of a point of the board in the rectangle, where there is one
abbrev pub rectangle_covers : Size → Option Rectangle → ℕ → Bool
rectangle_covers size None q = false
rectangle_covers size (Some e) q = nat_lt q (size.columns * size.rows) && in_rectangle size.columns e q

-- the value covers the point
abbrev pub covers : Size → List ℕ → ℕ → Bool
covers size v q = rectangle_covers size (rectangle_of_text size (trimmed v)) q

-- the value is an entry
abbrev pub is_entry : Size → List ℕ → Bool
is_entry size v = is_some (rectangle_of_text size (trimmed v))

-- the points that the values cover, where each value is an entry
unfoldable pub set_of : Size → List (List ℕ) → Option (set.FinSet nat_cmp)
set_of size vs = cond (list_all (is_entry size) vs) (Some (passing (λ q. list_any (λ v. covers size v q) vs) MOST_POINTS)) None
