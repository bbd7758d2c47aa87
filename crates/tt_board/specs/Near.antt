-- Adjacent points (the Tromp-Taylor rules of Go: vertically or horizontally).
use Rattle.std.specs.Prelude.{◌≡◌, ℕ, ◌+◌, ◌/◌, ◌%◌, ◌<◌, ◌⊎◌}
use Rattle.tt_sgf.specs.declared.size.Size.{Size}
use Rattle.tt_sgf.specs.Sizes.{point_count}

-- one number is the other's successor
abbrev pub AreConsecutive : ℕ → ℕ → Type 0
AreConsecutive a b = (a + 1 ≡ b) ⊎ (b + 1 ≡ a)

-- p and q are beside each other in one row, or in one column
abbrev pub AreAdjacent : Size → ℕ → ℕ → Type 0
AreAdjacent s p q =
    ((p / s.columns ≡ q / s.columns) × AreConsecutive (p % s.columns) (q % s.columns)) ⊎ ((p % s.columns ≡ q % s.columns) × AreConsecutive (p / s.columns) (q / s.columns))

-- q is a point of the board, adjacent to p
abbrev pub IsNeighbour : Size → ℕ → ℕ → Type 0
IsNeighbour s p q = (q < point_count s) × AreAdjacent s p q
