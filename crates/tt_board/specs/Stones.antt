-- What stands on the points of a set.
use Rattle.std.specs.Prelude.{◌≡◌, ℕ, ◌<◌, Bool, true, None}
use Rattle.std.specs.List.{list_any}
use Rattle.std.specs.FinSet as set
use Rattle.std.specs.Ordering.{nat_cmp}
use Rattle.tt_sgf.specs.declared.size.Size.{Size}
use Rattle.tt_sgf.specs.Sizes.{point_count}
use Rattle.tt_board.specs.Position.{Colouring}
use Rattle.tt_board.specs.Reach.{entry_at}
use Rattle.tt_board.specs.Play.{is_empty}

-- a set of points
abbrev pub PointNumberSet : Type 0
PointNumberSet = set.FinSet nat_cmp

-- all points of the set are on a board of this size
abbrev pub IsSetOnBoard : Size → PointNumberSet → Type 0
IsSetOnBoard size s = (p : ℕ) → set.contains s p ≡ true → p < point_count size

-- some point of the set is empty
unfoldable pub any_empty : PointNumberSet → Colouring → Bool
any_empty s c = list_any (λ p. is_empty (entry_at c p)) (set.items s)

-- the number is that of an empty point of the board that the set has
abbrev pub IsEmptyPointOfSet : Size → PointNumberSet → Colouring → ℕ → Type 0
IsEmptyPointOfSet size s c p = (p < point_count size) × (entry_at c p ≡ None) × (set.contains s p ≡ true)
