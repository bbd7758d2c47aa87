use Rattle.std.proofs.Common.{◌≡◌, ℕ, ◌+◌, ◌-◌, ◌*◌, ◌/◌, ◌%◌, ◌<◌, ◌≤◌, ◌↔◌, ◌⊎◌, List, [], zero, suc, Contains}
use Rattle.std.proofs.Common.{Option, Some, None, inl, inr, refl, sym, ap, ◌∙◌, arith}
use Rattle.std.proofs.lemmas.Bool.{cases_eq}
use Rattle.std.proofs.lemmas.Nat.{div-mul-add, mod-mul-add, div-add-mod', mod_below, mul-add-lt, div_below}
use Rattle.std.proofs.lemmas.Option.{none-some}
use Rattle.tt_sgf.specs.declared.size.Size.{Size}
use Rattle.tt_sgf.specs.Sizes.{point_count}
use Rattle.tt_board.specs.Near.{AreConsecutive, IsNeighbour}
use Rattle.tt_board.specs.inside.Neighbours.{IsThere, IsOneOf, ahead, neighbours_there}
use Rattle.tt_board.specs.inside.Chains.{IsEachOnce}
use Rattle.tt_board.proofs.CountLemmas.{once_first}

-- the four neighbours of p, as the code finds them
pub data Side : ℕ → ℕ → ℕ → ℕ → Type 0 where
  above : (w h p q : ℕ) → 0 < p / w → q ≡ p - w → Side w h p q
  left : (w h p q : ℕ) → 0 < p % w → q ≡ p - 1 → Side w h p q
  right : (w h p q : ℕ) → p % w + 1 < w → q ≡ p + 1 → Side w h p q
  below : (w h p q : ℕ) → p / w + 1 < h → q ≡ p + w → Side w h p q

-- a point beside p is one of the four
pub side_of : (w h p q : ℕ) → 0 < w → p < w * h → q < w * h
    → ((p / w ≡ q / w) × AreConsecutive (p % w) (q % w)) ⊎ ((p % w ≡ q % w) × AreConsecutive (p / w) (q / w)) → Side w h p q
side_of w h p q pos in_p in_q (inl (same, inl step)) =
    let rows = ap (λ r. r * w) same in
    right w h p q (omega (arith, mod_below q w pos)) (omega (arith, div-add-mod' p w, div-add-mod' q w))
side_of w h p q pos in_p in_q (inl (same, inr step)) =
    let rows = ap (λ r. r * w) same in
    left w h p q (omega arith) (omega (arith, div-add-mod' p w, div-add-mod' q w))
side_of w h p q pos in_p in_q (inr (same, inl step)) =
    let rows = ap (λ r. r * w) step in
    let row_in : q / w < h = div_below q w h pos (omega arith) in
    below w h p q (omega arith) (omega (arith, div-add-mod' p w, div-add-mod' q w))
side_of w h p q pos in_p in_q (inr (same, inr step)) =
    let rows = ap (λ r. r * w) step in
    above w h p q (omega arith) (omega (arith, div-add-mod' p w, div-add-mod' q w))

-- where a point is, by its row and column
placed : (w h p q r k : ℕ) → k < w → r < h → q ≡ r * w + k → (q < w * h) × (q / w ≡ r) × (q % w ≡ k)
placed w h p q r k in_row in_rows e =
    (rw e (mul-add-lt r w k h in_rows in_row), rw e (div-mul-add r w k in_row), rw e (mod-mul-add r w k in_row))

-- the row above
pub row_before : (r w : ℕ) → 0 < r → (r - 1) * w + w ≡ r * w
row_before r w h = let m = r - 1 in let e : r ≡ m + 1 = omega arith in let f = ap (λ x. x * w) e in omega (arith, f)

-- each of the four is a neighbour
pub of_side : (s : Size) (p q : ℕ) → 0 < s.columns → p < point_count s → Side s.columns s.rows p q → IsNeighbour s p q
of_side s p q pos in_p (above w h _ _ up e) =
    let row = div_below p w h pos (omega arith) in
    let at = placed w h p q (p / w - 1) (p % w) (mod_below p w pos) (omega arith) (omega (arith, div-add-mod' p w, row_before (p / w) w up)) in
    (at.0, inr (sym at.2, inr (omega arith)))
of_side s p q pos in_p (left w h _ _ before e) =
    let row = div_below p w h pos (omega arith) in
    let at = placed w h p q (p / w) (p % w - 1) (omega (arith, mod_below p w pos)) row (omega (arith, div-add-mod' p w)) in
    (at.0, inl (sym at.1, inr (omega arith)))
of_side s p q pos in_p (right w h _ _ after e) =
    let row = div_below p w h pos (omega arith) in
    let at = placed w h p q (p / w) (p % w + 1) after row (omega (arith, div-add-mod' p w)) in
    (at.0, inl (sym at.1, inl (omega arith)))
of_side s p q pos in_p (below w h _ _ down e) =
    let at = placed w h p q (p / w + 1) (p % w) (mod_below p w pos) down (omega (arith, div-add-mod' p w)) in
    (at.0, inr (sym at.2, inl (omega arith)))

-- a point that is there is the one meant, and what it needs holds
neighbour_there : {P : Type 0} (neighbour : Option ℕ) (x q : ℕ) → IsThere neighbour P x → neighbour ≡ Some q → P × (q ≡ x)
neighbour_there neighbour x q (inl (p, e)) has =
    let same : Some q ≡ Some x = sym has ∙ e in
    (p, cc)
neighbour_there neighbour x q (inr (_, e)) has = absurd (none-some q (sym e ∙ has))

-- where that holds it is there
there_neighbour : {P : Type 0} (neighbour : Option ℕ) (x q : ℕ) → IsThere neighbour P x → P → q ≡ x → neighbour ≡ Some q
there_neighbour neighbour x q (inl (_, e)) p same = e ∙ ap Some (sym same)
there_neighbour neighbour x q (inr (none, _)) p same = absurd (none p)

-- ---- a point at the head of a list, where it is there

-- what such a list has, is the point or stands behind it
pub of_ahead : (neighbour : Option ℕ) (rest : List ℕ) (q : ℕ) → Contains (ahead neighbour rest) q → (neighbour ≡ Some q) ⊎ Contains rest q
of_ahead None rest q has = inr has
of_ahead (Some x) rest q (zero, in', is) = inl (ap Some is)
of_ahead (Some x) rest q (suc i, in', is) = inr (i, omega arith, is)

-- a list with the point, and the list behind it
pub at_ahead : (neighbour : Option ℕ) (rest : List ℕ) (q : ℕ) → neighbour ≡ Some q → Contains (ahead neighbour rest) q
at_ahead None rest q is = absurd (none-some q is)
at_ahead (Some x) rest q is = let same : ◌≡◌ {A = ℕ} x q = cc in (0, omega arith, same)

pub past_ahead : (neighbour : Option ℕ) (rest : List ℕ) (q : ℕ) → Contains rest q → Contains (ahead neighbour rest) q
past_ahead None rest q has = has
past_ahead (Some x) rest q has = (suc has.0, omega (arith, has.1), has.2)

-- a list of the point alone
pub only_ahead : (neighbour : Option ℕ) (q : ℕ) → Contains (ahead neighbour []) q → neighbour ≡ Some q
only_ahead neighbour q has = elim (of_ahead neighbour [] q has) [ inl is ↦ is | inr none ↦ absurd (omega arith) ]

-- a point that the list hasn't got
once_ahead : (neighbour : Option ℕ) (rest : List ℕ) → ((q : ℕ) → neighbour ≡ Some q → Contains rest q → ⊥) → IsEachOnce rest → IsEachOnce (ahead neighbour rest)
once_ahead None rest fresh once = once
once_ahead (Some x) rest fresh once = once_first x rest once (fresh x refl)

-- the list of four neighbours has them and nothing else
pub in_neighbours : (a b c d : Option ℕ) (q : ℕ) → Contains (neighbours_there a b c d) q ↔ IsOneOf a b c d q
in_neighbours a b c d q = (
  λ has. elim (of_ahead a (ahead b (ahead c (ahead d []))) q has) [
    | inl is ↦ inl is
    | inr has2 ↦ elim (of_ahead b (ahead c (ahead d [])) q has2) [
      | inl is ↦ inr (inl is)
      | inr has3 ↦ elim (of_ahead c (ahead d []) q has3) [ inl is ↦ inr (inr (inl is)) | inr has4 ↦ inr (inr (inr (only_ahead d q has4))) ]
    ]
  ],
  λ one. elim one [
    | inl is ↦ at_ahead a (ahead b (ahead c (ahead d []))) q is
    | inr (inl is) ↦ past_ahead a _ q (at_ahead b (ahead c (ahead d [])) q is)
    | inr (inr (inl is)) ↦ past_ahead a _ q (past_ahead b _ q (at_ahead c (ahead d []) q is))
    | inr (inr (inr is)) ↦ past_ahead a _ q (past_ahead b _ q (past_ahead c _ q (at_ahead d [] q is)))
  ],
)

-- the rows beside that of a point
module _ (s : Size) (p : ℕ) (pos : 0 < s.columns) where
  -- a point past the numbers of the first row has a row above it
  pub row_above : s.columns ≤ p → 0 < p / s.columns
  row_above le = elim (cases_eq (p / s.columns) 0) [
    | inl none ↦ let rows = ap (λ r. r * s.columns) none in absurd (omega (arith, div-add-mod' p s.columns, mod_below p s.columns pos))
    | inr some ↦ omega arith
  ]

  -- a point with a number of the board one row further has a row below it
  pub row_below : p + s.columns < point_count s → p / s.columns + 1 < s.rows
  row_below lt =
      let e : (p / s.columns + 1) * s.columns + p % s.columns ≡ p + s.columns = omega (arith, div-add-mod' p s.columns) in
      let row = div-mul-add (p / s.columns + 1) s.columns (p % s.columns) (mod_below p s.columns pos) in
      let in_rows = div_below (p + s.columns) s.columns s.rows pos (omega arith) in
      let there = ap (λ x. x / s.columns) e in
      omega (arith, row, in_rows, there)

-- the four that are found are the neighbours
module _ (s : Size) (p : ℕ) (pos : 0 < s.columns) (in_p : p < point_count s) (a l r b : Option ℕ)
    (up : IsThere a (s.columns ≤ p) (p - s.columns)) (back : IsThere l (0 < p % s.columns) (p - 1))
    (on : IsThere r (p % s.columns + 1 < s.columns) (p + 1)) (down : IsThere b (p + s.columns < point_count s) (p + s.columns)) where
  -- each point is a side of the point
  side_at : (q : ℕ) → IsOneOf a l r b q → Side s.columns s.rows p q
  side_at q (inl has) = let h = neighbour_there a _ q up has in above _ _ p q (row_above s p pos h.0) h.1
  side_at q (inr (inl has)) = let h = neighbour_there l _ q back has in left _ _ p q h.0 h.1
  side_at q (inr (inr (inl has))) = let h = neighbour_there r _ q on has in right _ _ p q h.0 h.1
  side_at q (inr (inr (inr has))) = let h = neighbour_there b _ q down has in below _ _ p q (row_below s p pos h.0) h.1

  -- each side of the point is a point
  index_of : (q : ℕ) → q < point_count s → Side s.columns s.rows p q → IsOneOf a l r b q
  index_of q in_q (above w h _ _ row e) = inl (there_neighbour a _ q up (omega (arith, div-add-mod' p w, row_before (p / w) w row)) e)
  index_of q in_q (left w h _ _ before e) = inr (inl (there_neighbour l _ q back before e))
  index_of q in_q (right w h _ _ after e) = inr (inr (inl (there_neighbour r _ q on after e)))
  index_of q in_q (below w h _ _ row e) = inr (inr (inr (there_neighbour b _ q down (omega arith) e)))

  -- these are the neighbours
  pub near_neighbours : (q : ℕ) → IsOneOf a l r b q ↔ IsNeighbour s p q
  near_neighbours q = (λ has. of_side s p q pos in_p (side_at q has), λ near. index_of q near.0 (side_of s.columns s.rows p q pos in_p near.0 near.1))

  -- no point stands twice: they ascend
  pub neighbours_once : IsEachOnce (neighbours_there a l r b)
  neighbours_once =
      let rows = div-add-mod' p s.columns in
      let column = mod_below p s.columns pos in
      once_ahead a (ahead l (ahead r (ahead b []))) (λ q is has.
      let u = neighbour_there a _ q up is in
      elim (of_ahead l (ahead r (ahead b [])) q has) [
        | inl x ↦ let v = neighbour_there l _ q back x in omega (arith, u.0, u.1, v.0, v.1, rows, column)
        | inr has2 ↦ elim (of_ahead r (ahead b []) q has2) [
          | inl x ↦ let v = neighbour_there r _ q on x in omega (arith, u.1, v.1)
          | inr has3 ↦ let v = neighbour_there b _ q down (only_ahead b q has3) in omega (arith, u.1, v.1, pos)
        ]
      ])
      (once_ahead l (ahead r (ahead b [])) (λ q is has.
      let u = neighbour_there l _ q back is in
      elim (of_ahead r (ahead b []) q has) [
        | inl x ↦ let v = neighbour_there r _ q on x in omega (arith, u.1, v.1)
        | inr has3 ↦ let v = neighbour_there b _ q down (only_ahead b q has3) in omega (arith, u.1, v.1, pos)
      ])
      (once_ahead r (ahead b []) (λ q is has.
      let u = neighbour_there r _ q on is in
      let v = neighbour_there b _ q down (only_ahead b q has) in
      omega (arith, u.0, u.1, v.1))
      (once_ahead b [] (λ q is has. omega arith) (λ i j lt in'. absurd (omega arith)))))
