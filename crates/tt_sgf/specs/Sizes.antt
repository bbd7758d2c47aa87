-- Sizes of boards: 1 to 19 columns and 1 to 19 rows.
use Rattle.std.specs.Prelude.{ℕ, ◌*◌, ◌≤◌, ◌⊎◌, Option, Some, None}
use Rattle.std.proofs.Common.{inl, inr, arith}
use Rattle.std.proofs.lemmas.Bool.{cases_lt}
use Rattle.tt_sgf.specs.declared.size.Size.{Size}

-- how many points a board has
abbrev pub point_count : Size → ℕ
point_count s = s.columns * s.rows

-- a count of columns or rows that a board may have
abbrev pub IsSideLength : ℕ → Type 0
IsSideLength n = (1 ≤ n) × (n ≤ 19)

-- the size of these columns and rows
unfoldable pub size_with : (c r : ℕ) → IsSideLength c → IsSideLength r → Size
size_with c r h k = record { columns = c; rows = r; columns_in = h; rows_in = k }

-- whether a board may have so many columns or rows
pub decide_side_length : (n : ℕ) → (IsSideLength n → ⊥) ⊎ IsSideLength n
decide_side_length n = elim (cases_lt 0 n) [
  | inr none ↦ inl (λ h. absurd (omega (arith, h.0)))
  | inl some ↦ elim (cases_lt n 20) [
    | inl few ↦ inr (omega arith, omega arith)
    | inr many ↦ inl (λ h. absurd (omega (arith, h.1)))
  ]
]

-- the size, where both are sides
unfoldable pub sized_by : (c r : ℕ) → (IsSideLength c → ⊥) ⊎ IsSideLength c → (IsSideLength r → ⊥) ⊎ IsSideLength r → Option Size
sized_by c r (inl _) k = None
sized_by c r (inr h) (inl _) = None
sized_by c r (inr h) (inr k) = Some (size_with c r h k)

-- the size of so many columns and rows, where a board may have them
unfoldable pub sized : ℕ → ℕ → Option Size
sized c r = sized_by c r (decide_side_length c) (decide_side_length r)
