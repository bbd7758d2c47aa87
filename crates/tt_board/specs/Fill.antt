-- Flags of the points that reach something, as the test of `Decided` finds them. Of contracts private ones alone cite these; `Decided` makes the
-- test of reaching, which public ones cite, out of them.
use Rattle.std.specs.Prelude.{◌≡◌, ◌≢◌, ℕ, ◌<◌, ◌⊎◌, List, Option, Bool, false, not, IsTrue, slice_index_or, count_by}
use Rattle.tt_board.specs.declared.Colour.{Colour}
use Rattle.tt_sgf.specs.declared.size.Size.{Size}
use Rattle.tt_sgf.specs.Sizes.{point_count}
use Rattle.tt_board.specs.Near.{IsNeighbour}
use Rattle.tt_board.specs.Position.{Colouring}
use Rattle.tt_board.specs.Reach.{entry_at, Reaches}

-- whether the flag of p is on; past the end of the list none is
abbrev pub is_flagged : List Bool → ℕ → Bool
is_flagged m p = slice_index_or m p false

-- p, which is not e, is beside a point that is e, or beside one in the fill that is like p
abbrev pub IsFillableNext : Size → Colouring → Option Colour → List Bool → ℕ → Type 0
IsFillableNext s c e m p =
    (entry_at c p ≢ e) × ((q : ℕ) × IsNeighbour s p q × ((entry_at c q ≡ e) ⊎ ((entry_at c q ≡ entry_at c p) × IsTrue (is_flagged m q))))

-- only points that reach e are filled
abbrev pub IsSoundFill : Size → Colouring → Option Colour → List Bool → Type 0
IsSoundFill s c e m = (p : ℕ) → p < point_count s → IsTrue (is_flagged m p) → Reaches s c p e

-- all that is next to the fill is filled
abbrev pub IsClosedFill : Size → Colouring → Option Colour → List Bool → Type 0
IsClosedFill s c e m = (p : ℕ) → p < point_count s → IsFillableNext s c e m p → IsTrue (is_flagged m p)

-- exactly the points that reach e are filled
abbrev pub IsReachingFill : Size → Colouring → Option Colour → List Bool → Type 0
IsReachingFill s c e m = (p : ℕ) → p < point_count s → (IsTrue (is_flagged m p) → Reaches s c p e) × (Reaches s c p e → IsTrue (is_flagged m p))

-- how many points of the list aren't filled
abbrev pub unfilled_count : List Bool → ℕ
unfilled_count m = count_by not m
