-- Points beside those of a set that is kept as bits.
use Rattle.std.proofs.Common.{◌≡◌, ◌≢◌, ℕ, ◌+◌, ◌-◌, ◌*◌, ◌/◌, ◌%◌, ◌<◌, ◌⊎◌, ◌↔◌, Bool, true, false, not, ◌&&◌, ◌||◌, List, inl, inr, refl, sym, ap, ◌∙◌, arith}
use Rattle.std.proofs.lemmas.Bool.{cases_lt, true≢false, not-true, and_parts, and_from, or_cases, or_left, or_right, not_from_false}
use Rattle.std.proofs.lemmas.Nat.{mod-mul-add, div-add-mod', mod_below}
use Rattle.tt_sgf.specs.declared.size.Size.{Size}
use Rattle.tt_sgf.specs.declared.bits.TheConstants.{BITS}
use Rattle.tt_sgf.specs.Sizes.{point_count}
use Rattle.tt_sgf.specs.laws.SizeLaws.{point_count_is_bounded}
use Rattle.tt_sgf.specs.MachineWords.{bit_in}
use Rattle.tt_board.specs.Around.{AreOn, IsBesideSome}
use Rattle.tt_board.proofs.NearLemmas.{Side, above, left, right, below, side_of, of_side, row_above, row_below, row_before}

-- a bit that isn't 1
pub off_if : (b : Bool) → (b ≡ true → ⊥) → b ≡ false
off_if true h = absurd (h refl)
off_if false h = refl

-- ---- the first column

module _ (w : ℕ) (pos : 0 < w) where
  -- it goes on a row further
  pub next_first : (p : ℕ) → p % w ≡ 0 → (p + w) % w ≡ 0
  next_first p column =
      let e : (p / w + 1) * w + 0 ≡ p + w = omega (arith, div-add-mod' p w, column) in
      sym (ap (λ x. x % w) e) ∙ mod-mul-add (p / w + 1) w 0 pos

  -- and has no point between
  pub none_between : (p q : ℕ) → p % w ≡ 0 → p < q → q < p + w → q % w ≢ 0
  none_between p q column after before zero =
      let e : p / w * w + (q - p) ≡ q = omega (arith, div-add-mod' p w, column) in
      omega (arith, mod-mul-add (p / w) w (q - p) (omega arith), ap (λ x. x % w) e, zero)

  -- the next point is in the same row where it isn't there
  row_goes : (p : ℕ) → (p + 1) % w ≢ 0 → p % w + 1 < w
  row_goes p apart = elim (cases_lt (p % w + 1) w) [
    | inl lt ↦ lt
    | inr ge ↦
        let e : (p / w + 1) * w + 0 ≡ p + 1 = omega (arith, div-add-mod' p w, mod_below p w pos) in
        absurd (apart (sym (ap (λ x. x % w) e) ∙ mod-mul-add (p / w + 1) w 0 pos))
  ]

  -- and only there
  row_went : (p : ℕ) → p % w + 1 < w → (p + 1) % w ≢ 0
  row_went p lt zero =
      let e : p / w * w + (p % w + 1) ≡ p + 1 = omega (arith, div-add-mod' p w) in
      omega (arith, mod-mul-add (p / w) w (p % w + 1) lt, ap (λ x. x % w) e, zero)

-- ---- four moves

module _ (s : Size) (first points : List ℕ) (column : (p : ℕ) → p < point_count s → (bit_in first p ≡ true) ↔ (p % s.columns ≡ 0)) (on_board : AreOn s points) where
  pos : 0 < s.columns
  pos = omega (arith, s.columns_in.0)

  -- a row behind each point there are bits still
  few : (p : ℕ) → p < point_count s → p + s.columns < BITS
  few p in_p = omega (arith, point_count_is_bounded s, s.columns_in.1)

  -- what is in the set is on the board
  within : (q : ℕ) → q < BITS → bit_in points q ≡ true → q < point_count s
  within q small on = elim (cases_lt q (point_count s)) [ inl under ↦ under | inr past ↦ absurd (true≢false (sym on ∙ on_board q past small)) ]

  module _ (cut lefts up rights aboves belows : List ℕ)
      (cut_is : (q : ℕ) → q < BITS → bit_in cut q ≡ (bit_in points q && not (bit_in first q)))
      (left_is : (q : ℕ) → q + 1 < BITS → bit_in lefts q ≡ bit_in cut (q + 1))
      (up_is : (q : ℕ) → q + 1 < BITS → bit_in up (q + 1) ≡ bit_in points q)
      (up_low : (q : ℕ) → q < 1 → bit_in up q ≡ false)
      (right_is : (q : ℕ) → q < BITS → bit_in rights q ≡ (bit_in up q && not (bit_in first q)))
      (above_is : (q : ℕ) → q + s.columns < BITS → bit_in aboves q ≡ bit_in points (q + s.columns))
      (below_is : (q : ℕ) → q + s.columns < BITS → bit_in belows (q + s.columns) ≡ bit_in points q)
      (below_low : (q : ℕ) → q < s.columns → bit_in belows q ≡ false) (p : ℕ) (in_p : p < point_count s) where
    -- a point left of one of the set
    of_left : bit_in lefts p ≡ true → IsBesideSome s points p
    of_left on =
        let small : p + 1 < BITS = omega (arith, few p in_p, pos) in
        let h = and_parts (bit_in points (p + 1)) (not (bit_in first (p + 1))) (sym (cut_is (p + 1) small) ∙ sym (left_is p small) ∙ on) in
        let in_q = within (p + 1) small h.0 in
        let goes = row_goes s.columns pos p (λ zero. true≢false (sym ((column (p + 1) in_q).1 zero) ∙ not-true _ h.1)) in
        (p + 1, of_side s p (p + 1) pos in_p (right _ _ p (p + 1) goes refl), h.0)

    -- one right of it
    of_right : bit_in rights p ≡ true → IsBesideSome s points p
    of_right on =
        let h = and_parts (bit_in up p) (not (bit_in first p)) (sym (right_is p (omega (arith, few p in_p, pos))) ∙ on) in
        let goes : 0 < p % s.columns = elim (cases_lt 0 (p % s.columns)) [ inl lt ↦ lt | inr ge ↦ absurd (true≢false (sym ((column p in_p).1 (omega arith)) ∙ not-true _ h.1)) ] in
        elim (cases_lt p 1) [
          | inl low ↦ absurd (true≢false (sym h.0 ∙ up_low p low))
          | inr high ↦
              let e : p - 1 + 1 ≡ p = omega arith in
              (p - 1, of_side s p (p - 1) pos in_p (left _ _ p (p - 1) goes refl), sym (up_is (p - 1) (omega (arith, few p in_p, pos))) ∙ ap (bit_in up) e ∙ h.0)
        ]

    -- one above it
    of_above : bit_in aboves p ≡ true → IsBesideSome s points p
    of_above on =
        let has = sym (above_is p (few p in_p)) ∙ on in
        (p + s.columns, of_side s p (p + s.columns) pos in_p (below _ _ p (p + s.columns) (row_below s p pos (within (p + s.columns) (few p in_p) has)) refl), has)

    -- one below it
    of_below : bit_in belows p ≡ true → IsBesideSome s points p
    of_below on = elim (cases_lt p s.columns) [
      | inl low ↦ absurd (true≢false (sym on ∙ below_low p low))
      | inr high ↦
          let e : p - s.columns + s.columns ≡ p = omega arith in (
            p - s.columns,
            of_side s p (p - s.columns) pos in_p (above _ _ p (p - s.columns) (row_above s p pos high) refl),
            sym (below_is (p - s.columns) (omega (arith, few p in_p))) ∙ ap (bit_in belows) e ∙ on,
          )
    ]

    -- a side of the point that is in the set brings it in by one of the four moves
    moved : (q : ℕ) → q < point_count s → bit_in points q ≡ true → Side s.columns s.rows p q
        → (bit_in lefts p ≡ true) ⊎ (bit_in rights p ≡ true) ⊎ (bit_in aboves p ≡ true) ⊎ (bit_in belows p ≡ true)
    moved q in_q on (above w h _ _ row e) =
        let back : q + w ≡ p = omega (arith, div-add-mod' p w, row_before (p / w) w row) in
        inr (inr (inr (sym (ap (bit_in belows) back) ∙ below_is q (few q in_q) ∙ on)))
    moved q in_q on (left w h _ _ before e) =
        let back : q + 1 ≡ p = omega (arith, div-add-mod' p w) in
        let risen : bit_in up p ≡ true = sym (ap (bit_in up) back) ∙ up_is q (omega (arith, few q in_q, pos)) ∙ on in
        let off = off_if (bit_in first p) (λ f. let zero = (column p in_p).0 f in omega (arith, zero, before)) in
        inr (inl (right_is p (omega (arith, few p in_p, pos)) ∙ and_from _ _ risen (not_from_false _ off)))
    moved q in_q on (right w h _ _ after e) =
        let small : p + 1 < BITS = omega (arith, few p in_p, pos) in
        let off = off_if (bit_in first (p + 1)) (λ f. row_went w pos p after ((column (p + 1) (omega arith)).0 f)) in
        inl (left_is p small ∙ cut_is (p + 1) small ∙ and_from _ _ (sym (ap (bit_in points) e) ∙ on) (not_from_false _ off))
    moved q in_q on (below w h _ _ row e) = inr (inr (inl (above_is p (few p in_p) ∙ sym (ap (bit_in points) e) ∙ on)))

    -- the four moves together have the points beside those of the set
    pub around_is : (sides rows all : List ℕ) → ((q : ℕ) → q < BITS → bit_in sides q ≡ (bit_in lefts q || bit_in rights q))
        → ((q : ℕ) → q < BITS → bit_in rows q ≡ (bit_in aboves q || bit_in belows q)) → ((q : ℕ) → q < BITS → bit_in all q ≡ (bit_in sides q || bit_in rows q))
        → (bit_in all p ≡ true) ↔ IsBesideSome s points p
    around_is sides rows all sides_is rows_is all_is =
        let small : p < BITS = omega (arith, few p in_p) in (
          λ on. elim (or_cases _ _ (sym (all_is p small) ∙ on)) [
            | inl one ↦ elim (or_cases _ _ (sym (sides_is p small) ∙ one)) [ inl l ↦ of_left l | inr r ↦ of_right r ]
            | inr one ↦ elim (or_cases _ _ (sym (rows_is p small) ∙ one)) [ inl a ↦ of_above a | inr b ↦ of_below b ]
          ],
          λ h. all_is p small ∙ elim (moved h.0 h.1.0 h.2 (side_of s.columns s.rows p h.0 pos in_p h.1.0 h.1.1)) [
            | inl l ↦ or_left _ _ (sides_is p small ∙ or_left _ _ l)
            | inr (inl r) ↦ or_left _ _ (sides_is p small ∙ or_right _ _ r)
            | inr (inr (inl a)) ↦ or_right _ _ (rows_is p small ∙ or_left _ _ a)
            | inr (inr (inr b)) ↦ or_right _ _ (rows_is p small ∙ or_right _ _ b)
          ],
        )
