-- The row of a point, and the set of one point.
use Rattle.std.proofs.Common.{◌≡◌, ℕ, ◌/◌, ◌<◌, inl, inr, refl, sym, ◌∙◌, arith}
use Rattle.std.proofs.lemmas.Bool.{cases_eq, ne_eqb, false≢true}
use Rattle.std.proofs.lemmas.Nat.{div_below}
use Rattle.std.specs.Cmp.{nat_cmp_total, unsigned_tied}
use Rattle.std.specs.Ordering.{nat_cmp}
use Rattle.std.specs.FinSet as set
use Rattle.tt_sgf.specs.declared.size.Size.{Size}
use Rattle.tt_sgf.specs.Sizes.{point_count}
use Rattle.tt_board.specs.Stones.{IsSetOnBoard}

-- the row of a point is on the board
pub row_on_board : (size : Size) (q : ℕ) → q < point_count size → q / size.columns < size.rows
row_on_board size q h = div_below q size.columns size.rows (omega arith) (omega arith)

-- the set of one point
pub one_counts : (q : ℕ) → set.len (set.insert (set.empty {R = nat_cmp}) q) ≡ 1
one_counts q = set.len-insert nat_cmp_total set.empty q ∙ rw (set.contains-empty nat_cmp q, set.len-empty nat_cmp) refl

pub one_lies : (size : Size) (q : ℕ) → q < point_count size → IsSetOnBoard size (set.insert set.empty q)
one_lies size q h = λ p held. elim (cases_eq p q) [
  | inl e ↦ rw e h
  | inr d ↦ absurd (false≢true (sym (set.contains-insert nat_cmp_total set.empty q p ∙ rw (unsigned_tied p q, ne_eqb p q d, set.contains-empty nat_cmp p) refl) ∙ held))
]
