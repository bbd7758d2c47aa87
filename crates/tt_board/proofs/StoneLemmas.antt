-- Sets of points over the stones of a board, word by word.
use Rattle.std.proofs.Common.{◌≡◌, ℕ, ◌<◌, ◌≤◌, ◌↔◌, Bool, true, false, not, ◌||◌, ◌&&◌, List, [], ◌∷◌, Option, Some}
use Rattle.std.proofs.Common.{None, refl, sym, ap, ◌∙◌, arith, inl, inr}
use Rattle.std.specs.List.{list_any}
use Rattle.std.specs.FinSet as set
use Rattle.std.specs.Cmp.{unsigned_tied}
use Rattle.std.specs.Ordering.{nat_cmp, eq_by_cmp}
use Rattle.std.proofs.lemmas.Bool.{cases_lt, true≢false, false≢true, or_cases, and_from, and_parts, eqb-true, eq-eqb}
use Rattle.tt_sgf.specs.declared.size.Size.{Size}
use Rattle.tt_sgf.specs.Sizes.{point_count}
use Rattle.tt_sgf.specs.laws.SizeLaws.{point_count_is_bounded}
use Rattle.tt_sgf.specs.MachineWords.{bit_in, AreBitsOf, IsWithinUnion}
use Rattle.tt_board.specs.declared.Colour.{Colour}
use Rattle.tt_board.specs.declared.Colour.TheVariants.{Black, White}
use Rattle.tt_board.specs.Position.{Colouring}
use Rattle.tt_board.specs.Reach.{entry_at}
use Rattle.tt_board.specs.Play.{is_empty, is_stone_of}
use Rattle.tt_board.specs.Stones.{PointNumberSet, any_empty, IsEmptyPointOfSet}

-- ---- sets

-- numbers that tie in the order are equal
same_number : (q x : ℕ) → eq_by_cmp nat_cmp q x ≡ true → q ≡ x
same_number q x e = eqb-true q x (sym (unsigned_tied q x) ∙ e)

-- a number ties with itself
itself : (x : ℕ) → eq_by_cmp nat_cmp x x ≡ true
itself x = unsigned_tied x x ∙ eq-eqb x x refl

or_true : (b : Bool) → (b || true) ≡ true
or_true true = refl
or_true false = refl

-- some item passes, or is a number that passes
some_passes : (test : ℕ → Bool) (xs : List ℕ) → list_any test xs ≡ true → (p : ℕ) × (list_any (eq_by_cmp nat_cmp p) xs ≡ true) × (test p ≡ true)
some_passes test [] h = absurd (false≢true h)
some_passes test (x ∷ xs) h = elim (or_cases (test x) (list_any test xs) h) [
  | inl here ↦ (x, ap (λ b. b || list_any (eq_by_cmp nat_cmp x) xs) (itself x), here)
  | inr there ↦ let r = some_passes test xs there in (r.0, ap (λ b. eq_by_cmp nat_cmp r.0 x || b) r.1 ∙ or_true (eq_by_cmp nat_cmp r.0 x), r.2)
]

-- a number among the items that passes is an item that passes
passes_some : (test : ℕ → Bool) (xs : List ℕ) (p : ℕ) → list_any (eq_by_cmp nat_cmp p) xs ≡ true → test p ≡ true → list_any test xs ≡ true
passes_some test [] p at on = absurd (false≢true at)
passes_some test (x ∷ xs) p at on = elim (or_cases (eq_by_cmp nat_cmp p x) (list_any (eq_by_cmp nat_cmp p) xs) at) [
  | inl here ↦ ap (λ b. b || list_any test xs) (ap test (sym (same_number p x here)) ∙ on)
  | inr there ↦ ap (λ b. test x || b) (passes_some test xs p there on) ∙ or_true (test x)
]

-- a test that can't be true is false
decide_not : (b : Bool) → (b ≡ true → ⊥) → b ≡ false
decide_not true h = absurd (h refl)
decide_not false h = refl

-- words with the bits of the set, over two words of which one has the bit of each point that fails a test no
module _ (s : PointNumberSet) (n : ℕ) (small : n ≤ 361) (within : (p : ℕ) → set.contains s p ≡ true → p < n) (ws xs ys : List ℕ)
    (is : AreBitsOf ws 361 (λ p. set.contains s p)) (test : ℕ → Bool)
    (out : (p : ℕ) → p < n → test p ≡ true → (bit_in xs p || bit_in ys p) ≡ false) (in' : (p : ℕ) → p < n → test p ≡ false → (bit_in xs p || bit_in ys p) ≡ true) where
  -- where the two words cover the set, no point of it passes the test
  none_fails : IsWithinUnion ws xs ys → list_any test (set.items s) ≡ false
  none_fails covered = decide_not _ (λ some.
      let p = some_passes test (set.items s) some in
      let has = set.contains-items s p.0 ∙ p.1 in
      let lt = within p.0 has in
      true≢false (sym (covered p.0 (omega arith) (is.below p.0 (omega arith) (omega arith) ∙ has)) ∙ out p.0 lt p.2))

  -- where no point of the set passes the test, the two words cover it
  covered_if : list_any test (set.items s) ≡ false → IsWithinUnion ws xs ys
  covered_if none q lt on = elim (cases_lt q 361) [
    | inr past ↦ absurd (false≢true (sym (is.behind q past lt) ∙ on))
    | inl below ↦
        let has : set.contains s q ≡ true = sym (is.below q below lt) ∙ on in
        in' q (within q has) (decide_not (test q) (λ yes'. false≢true (sym none ∙ passes_some test (set.items s) q (sym (set.contains-items s q) ∙ has) yes')))
  ]

  -- so whether they cover it tells whether some point passes
  pub covers_is : (b : Bool) → ((b ≡ true → IsWithinUnion ws xs ys) × (IsWithinUnion ws xs ys → b ≡ true)) → not b ≡ list_any test (set.items s)
  covers_is true h = sym (none_fails (h.0 refl))
  covers_is false h = sym (by (list_any test (set.items s)) refl)
    where
      by : (b : Bool) → list_any test (set.items s) ≡ b → b ≡ true
      by true e = refl
      by false e = h.1 (covered_if e)

-- ---- stones

-- a point has one of the two bits exactly where a stone stands on it
bits_told : (e : Option Colour) (b w : Bool) → b ≡ is_stone_of e Black → w ≡ is_stone_of e White → (b || w) ≡ not (is_empty e)
bits_told None b w x y = rw (x, y) refl
bits_told (Some Black) b w x y = ap (λ a. a || w) x
bits_told (Some White) b w x y = rw (x, y) refl

-- words of a set that lies on the board
module _ (s : PointNumberSet) (n : ℕ) (small : n ≤ 361) (within : (p : ℕ) → set.contains s p ≡ true → p < n) (c : Colouring)
    (ws : List ℕ) (is : AreBitsOf ws 361 (λ p. set.contains s p)) where
  -- over the words of both colours' stones
  pub empty_is : (xs ys : List ℕ) → AreBitsOf xs n (λ p. is_stone_of (entry_at c p) Black) → AreBitsOf ys n (λ p. is_stone_of (entry_at c p) White)
      → (b : Bool) → ((b ≡ true → IsWithinUnion ws xs ys) × (IsWithinUnion ws xs ys → b ≡ true)) → not b ≡ any_empty s c
  unfolding any_empty
  empty_is xs ys blacks whites =
      let facts = λ (p : ℕ) (lt : p < n). (let h : (bit_in xs p || bit_in ys p) ≡ not (is_empty (entry_at c p))
      = bits_told (entry_at c p) (bit_in xs p) (bit_in ys p) (blacks.below p lt (omega arith)) (whites.below p lt (omega arith)) in h) in
      covers_is s n small within ws xs ys is (λ p. is_empty (entry_at c p)) (λ p lt on. facts p lt ∙ ap not on) (λ p lt off. facts p lt ∙ ap not off)

-- ---- the next empty point

-- no stone where the test says so
bare : (e : Option Colour) → is_empty e ≡ true → e ≡ None
bare None on = refl
bare (Some k) on = absurd (false≢true on)

-- words of a set, and those of both colours' stones on a board
module _ (size : Size) (s : PointNumberSet) (c : Colouring) (ws xs ys : List ℕ) (is : AreBitsOf ws 361 (λ p. set.contains s p))
    (blacks : AreBitsOf xs (point_count size) (λ p. is_stone_of (entry_at c p) Black)) (whites : AreBitsOf ys (point_count size) (λ p. is_stone_of (entry_at c p) White)) where
  -- where the bits of both colours are taken from the set's, those that are left on the board are of its empty points
  left_told : (rest left : List ℕ) (p : ℕ) → p < point_count size → bit_in rest p ≡ (bit_in ws p && not (bit_in xs p)) → bit_in left p ≡ (bit_in rest p && not (bit_in ys p))
      → bit_in left p ≡ (set.contains s p && is_empty (entry_at c p))
  left_told rest left p lt first second =
      let few : point_count size ≤ 361 = point_count_is_bounded size in
      let small : p < 384 = omega (arith, lt, few) in
      second ∙ ap (λ b. b && not (bit_in ys p)) first ∙ neither (bit_in ws p) (bit_in xs p) (bit_in ys p)
      ∙ ap (λ b. b && not (bit_in xs p || bit_in ys p)) (is.below p (omega (arith, lt, few)) small)
      ∙ ap (λ b. set.contains s p && not b) (bits_told (entry_at c p) (bit_in xs p) (bit_in ys p) (blacks.below p lt small) (whites.below p lt small))
      ∙ ap (λ b. set.contains s p && b) (not_not (is_empty (entry_at c p)))
    where
      neither : (a b d : Bool) → ((a && not b) && not d) ≡ (a && not (b || d))
      neither true true d = refl
      neither true false d = refl
      neither false b d = refl

      not_not : (b : Bool) → not (not b) ≡ b
      not_not true = refl
      not_not false = refl

  -- so each is that of an empty point, and the other way round
  pub left_empty : (rest left : List ℕ) (p : ℕ) → p < point_count size → bit_in rest p ≡ (bit_in ws p && not (bit_in xs p)) → bit_in left p ≡ (bit_in rest p && not (bit_in ys p))
      → (bit_in left p ≡ true) ↔ IsEmptyPointOfSet size s c p
  left_empty rest left p lt first second =
      let e = left_told rest left p lt first second in (
        λ on. let r = and_parts (set.contains s p) (is_empty (entry_at c p)) (sym e ∙ on) in (lt, bare (entry_at c p) r.1, r.0),
        λ free. e ∙ and_from (set.contains s p) (is_empty (entry_at c p)) free.2 (ap is_empty free.1),
      )
