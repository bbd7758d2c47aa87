-- Setting up stones, and what a board demands of a colouring: each of its stones has a liberty.
use Rattle.std.specs.Prelude.{◌≡◌, ◌≢◌, ℕ, ◌<◌, length, Option, Some, None, if◌then◌else◌, map}
use Rattle.std.specs.List.{range_with_len}
use Rattle.std.proofs.lemmas.List.FromFn.{length-map-range_with_len}
use Rattle.std.specs.FinSet as set
use Rattle.tt_board.specs.declared.Colour.{Colour}
use Rattle.tt_board.specs.declared.Colour.TheVariants.{Black, White}
use Rattle.tt_sgf.specs.declared.size.Size.{Size}
use Rattle.tt_sgf.specs.Sizes.{point_count}
use Rattle.tt_board.specs.Position.{Colouring}
use Rattle.tt_board.specs.Reach.{entry_at, Reaches}
use Rattle.tt_board.specs.Stones.{PointNumberSet}

-- each stone reaches empty
abbrev pub AllHaveLiberties : Size → Colouring → Type 0
AllHaveLiberties s c = (p : ℕ) → p < point_count s → entry_at c p ≢ None → Reaches s c p None

-- point p once the sets are applied: what no set names stays
abbrev pub placed_entry : Colouring → PointNumberSet → PointNumberSet → PointNumberSet → ℕ → Option Colour
placed_entry c black white bare p =
    if set.contains black p then Some Black else (if set.contains white p then Some White else (if set.contains bare p then None else entry_at c p))

-- the colouring with black, white and empty points put over it; nothing is cleared
unfoldable pub placed : Size → Colouring → PointNumberSet → PointNumberSet → PointNumberSet → Colouring
placed s c black white bare = map (placed_entry c black white bare) (range_with_len 0 (point_count s))

-- p is the least point whose stone doesn't reach empty
pub record IsLeastWithoutLiberty (s : Size) (c : Colouring) (p : ℕ) : Type 0 where
  pub on_board : p < point_count s
  pub stone : entry_at c p ≢ None
  pub lifeless : Reaches s c p None → ⊥
  pub least : (q : ℕ) → q < p → entry_at c q ≢ None → Reaches s c q None

-- what a setup makes has an entry for each point of the board
pub length-placed : (s : Size) (c : Colouring) (black white bare : PointNumberSet) → length (placed s c black white bare) ≡ point_count s
unfolding placed
length-placed s c black white bare = length-map-range_with_len _ 0 (point_count s)
