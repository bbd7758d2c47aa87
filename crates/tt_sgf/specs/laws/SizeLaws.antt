-- Laws of sizes: their columns and rows are all that they are. Proofs alone cite these, here and in the crates above.
use Rattle.std.proofs.Common.{◌≡◌, ◌≤◌, ℕ, Some, None, inl, inr, refl, sym, ap, subst}
use Rattle.std.proofs.lemmas.Option.{same_Some}
use Rattle.std.proofs.Math.Bridge.{le_prop}
use Rattle.tt_sgf.specs.declared.size.Size.{Size}
use Rattle.tt_sgf.specs.declared.size.TheConstants.{MOST_POINTS}
use Rattle.tt_sgf.specs.Sizes.{IsSideLength, point_count, size_with, decide_side_length, sized, sized_by}

-- that a number is a side is a fact in one way alone
same_side : (n : ℕ) (a b : IsSideLength n) → a ≡ b
same_side n a b = λ i. (le_prop a.0 b.0 i, le_prop a.1 b.1 i)

-- a size made of the same columns and rows is the same
made_same : (c d r t : ℕ) (h : IsSideLength c) (k : IsSideLength r) (l : IsSideLength d) (m : IsSideLength t) → c ≡ d → r ≡ t → size_with c r h k ≡ size_with d t l m
made_same c d r t h k l m e f =
    subst (λ y. (x : IsSideLength y) → size_with c r h k ≡ size_with y t x m) e
    (λ x. subst (λ y. (z : IsSideLength y) → size_with c r h k ≡ size_with c y x z) f (λ z. λ i. size_with c r (same_side c h x i) (same_side r k z i)) m) l

-- a size is known by its columns and rows
pub size_is_fixed_by_sides : (a b : Size) → a.columns ≡ b.columns → a.rows ≡ b.rows → a ≡ b
unfolding size_with
size_is_fixed_by_sides a b e f = made_same a.columns b.columns a.rows b.rows a.columns_in a.rows_in b.columns_in b.rows_in e f

-- a board has no more points than the largest
pub point_count_is_bounded : (size : Size) → point_count size ≤ MOST_POINTS
point_count_is_bounded size = Rattle.std.proofs.Math.Nat.mul-le-mul size.columns_in.1 size.rows_in.1

-- a size is the one of its columns and rows
pub sized_returns_size : (s : Size) → sized s.columns s.rows ≡ Some s
unfolding sized sized_by size_with
sized_returns_size s = elim (decide_side_length s.columns) as (λ x. sized_by s.columns s.rows x (decide_side_length s.rows) ≡ Some s) [
  | inl out ↦ absurd (out s.columns_in)
  | inr h ↦ elim (decide_side_length s.rows) as (λ y. sized_by s.columns s.rows (inr h) y ≡ Some s) [
    | inl out ↦ absurd (out s.rows_in)
    | inr k ↦ λ i. Some (size_is_fixed_by_sides (size_with s.columns s.rows h k) s refl refl i)
  ]
]

-- no board has other columns and rows
pub sized_is_none_outside : (c r : ℕ) → ((IsSideLength c × IsSideLength r) → ⊥) → sized c r ≡ None
unfolding sized sized_by
sized_is_none_outside c r out = elim (decide_side_length c) as (λ x. sized_by c r x (decide_side_length r) ≡ None) [
  | inl _ ↦ refl
  | inr h ↦ elim (decide_side_length r) as (λ y. sized_by c r (inr h) y ≡ None) [
    | inl _ ↦ refl
    | inr k ↦ absurd (out (h, k))
  ]
]

-- a size that was made has the columns and rows that it was made of
pub sized_has_dimensions : (c r : ℕ) (s : Size) → sized c r ≡ Some s → (s.columns ≡ c) × (s.rows ≡ r)
unfolding sized sized_by size_with
sized_has_dimensions c r s = elim (decide_side_length c) as (λ x. sized_by c r x (decide_side_length r) ≡ Some s → (s.columns ≡ c) × (s.rows ≡ r)) [
  | inl _ ↦ λ e. absurd cc
  | inr h ↦ elim (decide_side_length r) as (λ y. sized_by c r (inr h) y ≡ Some s → (s.columns ≡ c) × (s.rows ≡ r)) [
    | inl _ ↦ λ e. absurd cc
    | inr k ↦ λ e. let same = same_Some _ _ e in (sym (ap (λ (x : Size). x.columns) same), sym (ap (λ (x : Size). x.rows) same))
  ]
]
