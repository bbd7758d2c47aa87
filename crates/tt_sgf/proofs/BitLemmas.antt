-- Bits in words, and the sets of points that they are.
use Rattle.std.proofs.Common.{◌≡◌, ◌≢◌, ℕ, zero, suc, ◌+◌, ◌-◌, ◌*◌, ◌/◌, ◌%◌, ◌^◌, ◌<◌, ◌≤◌, Bool, true, false, not, ◌&&◌, eqb, ltb, min, max, ◌||◌, List, [], ◌∷◌, length, get_or}
use Rattle.std.proofs.Common.{set as put, refl, sym, ap, ◌∙◌, arith, inl, inr}
use Rattle.std.proofs.lemmas.Bool.{cases_lt, cases_eq, eq-eqb, ne_eqb, lt-ltb, le-ltb, true≢false, false≢true}
use Rattle.std.proofs.lemmas.List.{get_or-set_same, get_or-set_other}
use Rattle.std.proofs.lemmas.Nat.{shr-shr, one_shl, and_le_l}
use Rattle.std.proofs.lemmas.Nat.Bits.{shr_and_one, bit_at-zero, bit_at-lt, bit_at_and, bit_at_or, bit_at_xor, bit_at_not, bit_at_set_same, bit_at_set_other, bit_at_clear_same}
use Rattle.std.proofs.lemmas.Nat.Bits.{bit_at_clear_other, same_from_bits_below, bit_at_ones, bit_at_ones_above, bit_at-trailing_zeros, bit_at_above}
use Rattle.std.specs.Int.{w64, bit_at, bit_not, trailing_zeros}
use Rattle.std.specs.Prelude.{bit_and, bit_or, bit_xor, ◌↔◌, Option, Some, None, MatchOption}
use Rattle.std.specs.Cmp.{nat_cmp_total, unsigned_tied}
use Rattle.std.specs.Ordering.{nat_cmp, eq_by_cmp}
use Rattle.std.specs.FinSet as set
use Rattle.tt_sgf.specs.declared.size.TheConstants.{MOST_POINTS}
use Rattle.tt_sgf.specs.declared.bits.TheConstants.{BITS}
use Rattle.tt_sgf.specs.Points.{passing}
use Rattle.tt_sgf.specs.laws.PointLaws.{passing-zero, passing-in, passing-out, contains-passing}
use Rattle.tt_sgf.specs.MachineWords.{bit_in, points_of, AreLowBitsOf, AreSameBits, AreBitsOfPoints, IsWithinUnion}

-- ---- bits

-- a bit as the code reads it
pub bit_is : (words : List ℕ) (n : ℕ) → eqb (bit_and (get_or words (n / 64) 0 / 2 ^ (n % 64)) 1) 1 ≡ bit_in words n
unfolding bit_in
bit_is words n = ap (λ (x : ℕ). eqb x 1) (shr_and_one (get_or words (n / 64) 0) (n % 64))

-- six words without a bit
abbrev pub six : List ℕ
six = 0 ∷ 0 ∷ 0 ∷ 0 ∷ 0 ∷ 0 ∷ []

-- each word of the six is 0, and so is what stands for one past them
zeros : (k : ℕ) → get_or six k 0 ≡ 0
zeros zero = refl
zeros (suc zero) = refl
zeros (suc (suc zero)) = refl
zeros (suc (suc (suc zero))) = refl
zeros (suc (suc (suc (suc zero)))) = refl
zeros (suc (suc (suc (suc (suc zero))))) = refl
zeros (suc (suc (suc (suc (suc (suc k)))))) = refl

-- no bit of the six words is 1
pub no_bit : (q : ℕ) → bit_in six q ≡ false
unfolding bit_in
no_bit q = rw (zeros (q / 64), bit_at-zero (q % 64)) refl

-- a word put instead of another, in which one bit is set or cleared
module _ (words : List ℕ) (n : ℕ) (within : n < BITS) (wide : length words ≡ 6) where
  -- a bit is read from the word that was put there
  bit_of-word : (w : ℕ) (value : ℕ) → bit_at w (n % 64) ≡ value → bit_in (put words (n / 64) w) n ≡ eqb value 1
  unfolding bit_in
  bit_of-word w value e = let inside : n / 64 < length words = omega arith in rw (get_or-set_same, e) refl

  -- all other bits stay, where the word put in has the other bits of the old one
  bit_elsewhere : (w : ℕ) → ((i : ℕ) → i < 64 → i ≢ n % 64 → bit_at w i ≡ bit_at (get_or words (n / 64) 0) i) → (q : ℕ) → (q ≡ n → ⊥) → bit_in (put words (n / 64) w) q ≡ bit_in words q
  unfolding bit_in
  bit_elsewhere w others q ne =
      let inside : n / 64 < length words = omega arith in
      elim (cases_eq (q / 64) (n / 64)) [
        | inl e ↦ let apart : q % 64 ≢ n % 64 = λ f. ne (omega arith) in rw (e, get_or-set_same, others (q % 64) (omega arith) apart) refl
        | inr d ↦ let apart : q / 64 ≢ n / 64 = d in rw get_or-set_other refl
      ]

  -- the bit of a number set: it is 1, and all others stay
  pub on_same : bit_in (put words (n / 64) (bit_or (get_or words (n / 64) 0) (1 * 2 ^ (n % 64) % 2 ^ 64))) n ≡ true
  on_same = bit_of-word _ 1 (bit_at_set_same w64 (get_or words (n / 64) 0) (n % 64) (omega arith))

  pub on_others : (q : ℕ) → (q ≡ n → ⊥) → bit_in (put words (n / 64) (bit_or (get_or words (n / 64) 0) (1 * 2 ^ (n % 64) % 2 ^ 64))) q ≡ bit_in words q
  on_others = bit_elsewhere _ (λ i small apart. bit_at_set_other w64 (get_or words (n / 64) 0) (n % 64) (omega arith) i apart)

  -- the bit of a number cleared: it is 0, and all others stay
  pub off_same : bit_in (put words (n / 64) (bit_and (get_or words (n / 64) 0) (bit_not w64 (1 * 2 ^ (n % 64) % 2 ^ 64)))) n ≡ false
  off_same = bit_of-word _ 0 (bit_at_clear_same w64 (get_or words (n / 64) 0) (n % 64) (omega arith))

  pub off_others : (q : ℕ) → (q ≡ n → ⊥) → bit_in (put words (n / 64) (bit_and (get_or words (n / 64) 0) (bit_not w64 (1 * 2 ^ (n % 64) % 2 ^ 64)))) q ≡ bit_in words q
  off_others = bit_elsewhere _ (λ i small apart. bit_at_clear_other w64 (get_or words (n / 64) 0) (n % 64) (omega arith) i small apart)

-- ---- the same bits

-- the bit of a number, at its index in its word
same_bit : (a b : List ℕ) (q k i : ℕ) → q / 64 ≡ k → q % 64 ≡ i → bit_in a q ≡ bit_in b q → eqb (bit_at (get_or a k 0) i) 1 ≡ eqb (bit_at (get_or b k 0) i) 1
unfolding bit_in
same_bit a b q k i word offset h = rw (← word, ← offset) h

-- a bit is known by whether it is 1
one_bit : (x y : ℕ) → x < 2 → y < 2 → eqb x 1 ≡ eqb y 1 → x ≡ y
one_bit zero zero sx sy e = refl
one_bit zero (suc zero) sx sy e = absurd (false≢true e)
one_bit (suc zero) zero sx sy e = absurd (true≢false e)
one_bit (suc zero) (suc zero) sx sy e = refl
one_bit (suc (suc x)) y sx sy e = absurd (omega arith)
one_bit zero (suc (suc y)) sx sy e = absurd (omega arith)
one_bit (suc zero) (suc (suc y)) sx sy e = absurd (omega arith)

-- a word is known by its bits
word_by_bits : (a b : List ℕ) (k : ℕ) → get_or a k 0 < 2 ^ 64 → get_or b k 0 < 2 ^ 64 → ((i : ℕ) → i < 64 → bit_in a (k * 64 + i) ≡ bit_in b (k * 64 + i)) → get_or a k 0 ≡ get_or b k 0
word_by_bits a b k fits_a fits_b same = same_from_bits_below 64 (get_or a k 0) (get_or b k 0) fits_a fits_b (λ i small.
    one_bit (bit_at (get_or a k 0) i) (bit_at (get_or b k 0) i) (bit_at-lt (get_or a k 0) i) (bit_at-lt (get_or b k 0) i)
    (same_bit a b (k * 64 + i) k i (omega arith) (omega arith) (same i small)))

-- so it is where all bits of six words are the same
pub word_is : (a b : List ℕ) (k : ℕ) → k < 6 → get_or a k 0 < 2 ^ 64 → get_or b k 0 < 2 ^ 64 → AreSameBits a b → get_or a k 0 ≡ get_or b k 0
word_is a b k lt fits_a fits_b same = word_by_bits a b k fits_a fits_b (λ i small. same (k * 64 + i) (omega arith))

-- ---- membership

and_false : (b : Bool) → (b && false) ≡ false
and_false true = refl
and_false false = refl

-- the order of numbers has two as one exactly where they are equal
tied : (q n : ℕ) → eq_by_cmp nat_cmp q n ≡ eqb q n
tied q n = unsigned_tied q n

-- a number is in the set where it is a point's and its bit is 1
pub contains-points : (words : List ℕ) (q : ℕ) → set.contains (points_of words) q ≡ (ltb q MOST_POINTS && bit_in words q)
unfolding points_of
contains-points words q = contains-passing (bit_in words) MOST_POINTS q

-- below 361 a number is in the set exactly where its bit is 1
pub has_point : (words : List ℕ) (q : ℕ) → q < MOST_POINTS → set.contains (points_of words) q ≡ bit_in words q
has_point words q lt = contains-points words q ∙ rw (lt-ltb q MOST_POINTS lt) refl

-- a set is known by its members
same_points : (s t : set.FinSet nat_cmp) → ((q : ℕ) → set.contains s q ≡ set.contains t q) → s ≡ t
same_points s t h = set.same_set nat_cmp_total set.nat_cmp-IsAntisymmetric s t h

-- one more bit is one more point
pub points-with : (words made : List ℕ) (p : ℕ) → p < MOST_POINTS → bit_in made p ≡ true → ((q : ℕ) → q < BITS → (q ≡ p → ⊥) → bit_in made q ≡ bit_in words q)
    → points_of made ≡ set.insert (points_of words) p
points-with words made p lt same others = same_points _ _ (λ q.
    contains-points made q ∙ sym (set.contains-insert nat_cmp_total (points_of words) p q ∙ rw (tied q p, contains-points words q) (elim (cases_eq q p) [
      | inl e ↦ rw (e, eq-eqb p p refl, lt-ltb p MOST_POINTS lt, same) refl
      | inr d ↦ rw (ne_eqb q p d) (elim (cases_lt q MOST_POINTS) [
        | inl below ↦ rw (lt-ltb q MOST_POINTS below, others q (omega arith) d) refl
        | inr above ↦ rw (le-ltb q MOST_POINTS above) refl
      ])
    ])))

-- ---- how many, and the least

-- a number that passes counts as one more
pub len-passing-in : (f : ℕ → Bool) (n : ℕ) → f n ≡ true → set.len (passing f (n + 1)) ≡ set.len (passing f n) + 1
len-passing-in f n h =
    let out : set.contains (passing f n) n ≡ false = contains-passing f n n ∙ rw (le-ltb n n (omega arith)) refl in
    let up : n + 1 ≡ suc n = omega arith in
    ap (λ k. set.len (passing f k)) up ∙ ap set.len (passing-in f n h) ∙ set.len-insert nat_cmp_total (passing f n) n ∙ rw out refl

-- a number that doesn't pass counts as none
pub len-passing-out : (f : ℕ → Bool) (n : ℕ) → f n ≡ false → set.len (passing f (n + 1)) ≡ set.len (passing f n)
len-passing-out f n h =
    let up : n + 1 ≡ suc n = omega arith in
    ap (λ k. set.len (passing f k)) up ∙ ap set.len (passing-out f n h)

-- no number is below 0, so none is counted
pub len-passing-none : (f : ℕ → Bool) → set.len (passing f 0) ≡ 0
len-passing-none f = ap set.len (passing-zero f) ∙ set.len-empty nat_cmp

pub len-points : (words : List ℕ) → set.len (points_of words) ≡ set.len (passing (bit_in words) MOST_POINTS)
unfolding points_of
len-points words = refl

-- no point is in a set without bits
pub points-empty : (words : List ℕ) → ((q : ℕ) → q < MOST_POINTS → bit_in words q ≡ false) → points_of words ≡ set.empty
points-empty words h = same_points _ _ (λ q. contains-points words q ∙ elim (cases_lt q MOST_POINTS) [
  | inl below ↦ rw (h q below) (and_false (ltb q MOST_POINTS))
  | inr above ↦ rw (le-ltb q MOST_POINTS above) refl
] ∙ sym (set.contains-empty nat_cmp q))

-- the least point from 0 on is the least of all
pub least_is : (s : set.FinSet nat_cmp) (found : Option ℕ)
    → MatchOption found ((q : ℕ) → 0 ≤ q → set.contains s q ≡ false) (λ p. (set.contains s p ≡ true) × (0 ≤ p) × ((q : ℕ) → 0 ≤ q → q < p → set.contains s q ≡ false) × (p < MOST_POINTS))
    → MatchOption found (s ≡ set.empty) (λ p. (set.contains s p ≡ true) × ((q : ℕ) → set.contains s q ≡ true → p ≤ q) × (p < MOST_POINTS))
least_is s None h = same_points s set.empty (λ q. h q (omega arith) ∙ sym (set.contains-empty nat_cmp q))
least_is s (Some p) h = (
  h.0,
  λ q has. elim (cases_lt q p) [
    | inl below ↦ absurd (false≢true (sym (h.2 q (omega arith) below) ∙ has))
    | inr above ↦ above
  ],
  h.3,
)

-- ---- word by word

-- a bit of the lesser of two is 1 where both are
two_bits : (x y : ℕ) → x < 2 → y < 2 → eqb (min x y) 1 ≡ (eqb x 1 && eqb y 1)
two_bits zero zero h k = refl
two_bits zero (suc zero) h k = refl
two_bits (suc zero) zero h k = refl
two_bits (suc zero) (suc zero) h k = refl
two_bits (suc (suc x)) y h k = absurd (omega arith)
two_bits zero (suc (suc y)) h k = absurd (omega arith)
two_bits (suc zero) (suc (suc y)) h k = absurd (omega arith)

-- a bit of the greater of two is 1 where one is
two_bits_or : (x y : ℕ) → x < 2 → y < 2 → eqb (max x y) 1 ≡ (eqb x 1 || eqb y 1)
two_bits_or zero zero h k = refl
two_bits_or zero (suc zero) h k = refl
two_bits_or (suc zero) zero h k = refl
two_bits_or (suc zero) (suc zero) h k = refl
two_bits_or (suc (suc x)) y h k = absurd (omega arith)
two_bits_or zero (suc (suc y)) h k = absurd (omega arith)
two_bits_or (suc zero) (suc (suc y)) h k = absurd (omega arith)

-- bits differ where the sum of the two is odd
two_bits_xor : (x y : ℕ) → x < 2 → y < 2 → (eqb ((x + y) % 2) 1 ≡ false) ↔ (eqb x 1 ≡ eqb y 1)
two_bits_xor zero zero h k = (λ _. refl, λ _. refl)
two_bits_xor zero (suc zero) h k = (λ e. absurd (true≢false e), λ e. absurd (false≢true e))
two_bits_xor (suc zero) zero h k = (λ e. absurd (true≢false e), λ e. absurd (true≢false e))
two_bits_xor (suc zero) (suc zero) h k = (λ _. refl, λ _. refl)
two_bits_xor (suc (suc x)) y h k = absurd (omega arith)
two_bits_xor zero (suc (suc y)) h k = absurd (omega arith)
two_bits_xor (suc zero) (suc (suc y)) h k = absurd (omega arith)

-- a bit taken from 1 is 1 exactly where the bit is not
other_bit : (y : ℕ) → y < 2 → eqb (1 - y) 1 ≡ not (eqb y 1)
other_bit zero h = refl
other_bit (suc zero) h = refl
other_bit (suc (suc y)) h = absurd (omega arith)

module _ (made a b : List ℕ) where
  -- the words' `and` has the bits that both have
  pub bit-and : ((k : ℕ) → k < 6 → get_or made k 0 ≡ bit_and (get_or a k 0) (get_or b k 0)) → (q : ℕ) → q < BITS → bit_in made q ≡ (bit_in a q && bit_in b q)
  unfolding bit_in
  bit-and h q lt =
      ap (λ w. eqb (bit_at w (q % 64)) 1) (h (q / 64) (omega arith)) ∙ ap (λ x. eqb x 1) (bit_at_and (get_or a (q / 64) 0) (get_or b (q / 64) 0) (q % 64))
      ∙ two_bits (bit_at (get_or a (q / 64) 0) (q % 64)) (bit_at (get_or b (q / 64) 0) (q % 64)) (bit_at-lt _ _) (bit_at-lt _ _)

  -- the `and` of words and of others' complement has the bits of the first ones alone
  pub bit-minus : ((k : ℕ) → k < 6 → get_or b k 0 < 2 ^ 64) → ((k : ℕ) → k < 6 → get_or made k 0 ≡ bit_and (get_or a k 0) (bit_not w64 (get_or b k 0))) → (q : ℕ) → q < BITS
      → bit_in made q ≡ (bit_in a q && not (bit_in b q))
  unfolding bit_in
  bit-minus fits h q lt =
      let x = get_or a (q / 64) 0 in
      let y = get_or b (q / 64) 0 in
      let i = q % 64 in
      ap (λ w. eqb (bit_at w i) 1) (h (q / 64) (omega arith))
      ∙ ap (λ z. eqb z 1) (bit_at_and x (bit_not w64 y) i ∙ ap (λ z. min (bit_at x i) z) (bit_at_not w64 y i (fits (q / 64) (omega arith)) (omega arith)))
      ∙ two_bits (bit_at x i) (1 - bit_at y i) (bit_at-lt x i) (omega (arith, bit_at-lt y i)) ∙ ap (λ z. eqb (bit_at x i) 1 && z) (other_bit (bit_at y i) (bit_at-lt y i))

  -- the bits that both have are the points that both sets have
  pub points-and : ((q : ℕ) → q < BITS → bit_in made q ≡ (bit_in a q && bit_in b q)) → points_of made ≡ set.intersection (points_of a) (points_of b)
  points-and h = same_points _ _ (λ q. contains-points made q
      ∙ sym (set.contains-intersection nat_cmp_total (points_of a) (points_of b) q ∙ rw (contains-points a q, contains-points b q) (elim (cases_lt q MOST_POINTS) [
        | inl below ↦ rw (lt-ltb q MOST_POINTS below) (sym (h q (omega arith)))
        | inr above ↦ rw (le-ltb q MOST_POINTS above) refl
      ])))

  -- the bits of the first words alone are the points of the first set alone
  pub points-minus : ((q : ℕ) → q < BITS → bit_in made q ≡ (bit_in a q && not (bit_in b q))) → points_of made ≡ set.difference (points_of a) (points_of b)
  points-minus h = same_points _ _ (λ q. contains-points made q
      ∙ sym (set.contains-difference nat_cmp_total (points_of a) (points_of b) q ∙ rw (contains-points a q, contains-points b q) (elim (cases_lt q MOST_POINTS) [
        | inl below ↦ rw (lt-ltb q MOST_POINTS below) (sym (h q (omega arith)))
        | inr above ↦ rw (le-ltb q MOST_POINTS above) refl
      ])))

  -- the words' `or` has the bits that one of them has
  pub bit-or : ((k : ℕ) → k < 6 → get_or made k 0 ≡ bit_or (get_or a k 0) (get_or b k 0)) → (q : ℕ) → q < BITS → bit_in made q ≡ (bit_in a q || bit_in b q)
  unfolding bit_in
  bit-or h q lt =
      ap (λ w. eqb (bit_at w (q % 64)) 1) (h (q / 64) (omega arith)) ∙ ap (λ x. eqb x 1) (bit_at_or (get_or a (q / 64) 0) (get_or b (q / 64) 0) (q % 64))
      ∙ two_bits_or (bit_at (get_or a (q / 64) 0) (q % 64)) (bit_at (get_or b (q / 64) 0) (q % 64)) (bit_at-lt _ _) (bit_at-lt _ _)

  -- the bits that one of them has are the points that one of the sets has
  pub points-or : ((q : ℕ) → q < BITS → bit_in made q ≡ (bit_in a q || bit_in b q)) → points_of made ≡ set.union (points_of a) (points_of b)
  points-or h = same_points _ _ (λ q. contains-points made q
      ∙ sym (set.contains-union nat_cmp_total (points_of a) (points_of b) q ∙ rw (contains-points a q, contains-points b q) (elim (cases_lt q MOST_POINTS) [
        | inl below ↦ rw (lt-ltb q MOST_POINTS below) (sym (h q (omega arith)))
        | inr above ↦ rw (le-ltb q MOST_POINTS above) refl
      ])))

  -- a bit of the words' `xor` is 0 exactly where the two agree
  pub bit-xor : ((k : ℕ) → k < 6 → get_or made k 0 ≡ bit_xor (get_or a k 0) (get_or b k 0)) → (q : ℕ) → q < BITS → (bit_in made q ≡ false) ↔ (bit_in a q ≡ bit_in b q)
  unfolding bit_in
  bit-xor h q lt =
      let x = get_or a (q / 64) 0 in
      let y = get_or b (q / 64) 0 in
      let i = q % 64 in
      let is : eqb (bit_at (get_or made (q / 64) 0) i) 1 ≡ eqb ((bit_at x i + bit_at y i) % 2) 1 =
      ap (λ w. eqb (bit_at w i) 1) (h (q / 64) (omega arith)) ∙ ap (λ z. eqb z 1) (bit_at_xor x y i) in
      let both = two_bits_xor (bit_at x i) (bit_at y i) (bit_at-lt x i) (bit_at-lt y i) in
      (λ e. both.0 (sym is ∙ e), λ e. is ∙ both.1 e)

-- ---- the lowest bits, and the first one

-- a mask of ones leaves the lowest bits
pub low_mask : (word count : ℕ) → count < 64 → AreLowBitsOf (bit_and word (1 * 2 ^ count % 2 ^ 64 - 1)) word count
low_mask word count few = λ i small.
    let mask : bit_at (bit_and word (1 * 2 ^ count % 2 ^ 64 - 1)) i ≡ min (bit_at word i) (bit_at (2 ^ count - 1) i) =
    ap (λ m. bit_at (bit_and word (m - 1)) i) (one_shl count 64 few) ∙ bit_at_and word (2 ^ count - 1) i in (
      λ below. omega (arith, mask, bit_at_ones count i below, bit_at-lt word i),
      λ above. omega (arith, mask, bit_at_ones_above count i above),
    )

module _ (made words : List ℕ) (count : ℕ) (low : (k : ℕ) → k < 6 → AreLowBitsOf (get_or made k 0) (get_or words k 0) (count - 64 * k)) where
  -- where each word keeps its lowest bits, those below the count stay and all others are 0
  pub low_kept : (q : ℕ) → q < BITS → q < count → bit_in made q ≡ bit_in words q
  unfolding bit_in
  low_kept q lt below = ap (λ x. eqb x 1) ((low (q / 64) (omega arith) (q % 64) (omega arith)).0 (omega arith))

  pub low_none : (q : ℕ) → q < BITS → count ≤ q → bit_in made q ≡ false
  unfolding bit_in
  low_none q lt above = ap (λ x. eqb x 1) ((low (q / 64) (omega arith) (q % 64) (omega arith)).1 (omega arith))

-- the bits of a word from one of them on
bit_from : (word i j : ℕ) → bit_at (word / 2 ^ i) j ≡ bit_at word (i + j)
bit_from word i j = ap (λ x. x % 2) (shr-shr word i j)

module _ (words : List ℕ) (n : ℕ) (lt : n < BITS) where
  -- a bit of the word of n, from n on, is one of what is left of the word, shifted down to n
  rest_bit : (rest : ℕ) → rest ≡ get_or words (n / 64) 0 / 2 ^ (n % 64) → (q : ℕ) → n ≤ q → q / 64 ≡ n / 64 → bit_in words q ≡ eqb (bit_at rest (q - n)) 1
  unfolding bit_in
  rest_bit rest is q after same =
      let offset : q % 64 ≡ n % 64 + (q - n) = omega arith in
      rw (same, offset, is) (ap (λ x. eqb x 1) (sym (bit_from (get_or words (n / 64) 0) (n % 64) (q - n))))

  -- the lowest bit of what is left of a word
  pub first_here : (rest : ℕ) → rest ≡ get_or words (n / 64) 0 / 2 ^ (n % 64) → 0 < rest → get_or words (n / 64) 0 < 2 ^ 64
      → (bit_in words (n + trailing_zeros w64 rest) ≡ true) × (n + trailing_zeros w64 rest < BITS) × ((q : ℕ) → n ≤ q → q < n + trailing_zeros w64 rest → bit_in words q ≡ false)
  first_here rest is some fits =
      let small : rest < 2 ^ 64 = omega (arith, is, Rattle.std.proofs.lemmas.Nat.shr_le (get_or words (n / 64) 0) (n % 64)) in
      let t = trailing_zeros w64 rest in
      let lowest = bit_at-trailing_zeros w64 rest some small in
      let offset = n % 64 + t in
      let one : bit_at (get_or words (n / 64) 0) (n % 64 + t) ≡ 1 = sym (bit_from (get_or words (n / 64) 0) (n % 64) t) ∙ ap (λ x. bit_at x t) (sym is) ∙ lowest.1 in
      let inside : n % 64 + t < 64 = elim (cases_lt (n % 64 + t) 64) [
        | inl below ↦ below
        | inr above ↦ absurd (omega (arith, one, bit_at_above (get_or words (n / 64) 0) 64 (n % 64 + t) fits above))
      ] in
      let back : n + t - n ≡ t = omega arith in (
        rest_bit rest is (n + t) (omega arith) (omega arith) ∙ ap (λ j. eqb (bit_at rest j) 1) back ∙ ap (λ x. eqb x 1) lowest.1,
        omega arith,
        λ q after before. rest_bit rest is q after (omega arith) ∙ ap (λ x. eqb x 1) (lowest.2 (q - n) (omega arith)),
      )

  -- a word of which nothing is left
  pub none_here : (rest : ℕ) → rest ≡ get_or words (n / 64) 0 / 2 ^ (n % 64) → rest ≡ 0 → (q : ℕ) → n ≤ q → q < n / 64 * 64 + 64 → bit_in words q ≡ false
  none_here rest is none q after before =
      rest_bit rest is q after (omega arith) ∙ ap (λ x. eqb (bit_at x (q - n)) 1) none ∙ ap (λ x. eqb x 1) (bit_at-zero (q - n))

-- a number is not in the set where its bit is 0
pub no_point : (words : List ℕ) (q : ℕ) → (q < MOST_POINTS → bit_in words q ≡ false) → set.contains (points_of words) q ≡ false
no_point words q h = contains-points words q ∙ elim (cases_lt q MOST_POINTS) [
  | inl below ↦ rw (h below) (and_false (ltb q MOST_POINTS))
  | inr above ↦ rw (le-ltb q MOST_POINTS above) refl
]

-- sets are the same exactly where the bits are, since those of no point are 0
pub points_from-bits : (words others : List ℕ) → AreSameBits words others → points_of words ≡ points_of others
points_from-bits words others same = same_points _ _ (λ q. contains-points words q ∙ elim (cases_lt q MOST_POINTS) [
  | inl below ↦ ap (λ b. ltb q MOST_POINTS && b) (same q (omega arith))
  | inr above ↦ rw (le-ltb q MOST_POINTS above) refl
] ∙ sym (contains-points others q))

-- the same sets have the same bits, where the bits of no point are 0
pub bits_from-points : (words others : List ℕ) → AreBitsOfPoints words → AreBitsOfPoints others → points_of words ≡ points_of others → AreSameBits words others
bits_from-points words others alone others_alone same = λ q small. elim (cases_lt q MOST_POINTS) [
  | inl below ↦ sym (has_point words q below) ∙ ap (λ s. set.contains s q) same ∙ has_point others q below
  | inr above ↦ alone q above small ∙ sym (others_alone q above small)
]

-- ---- bits that are covered

-- a bit that is 1 in the first word alone
left_bit : (w a b i : ℕ) → a < 2 ^ 64 → b < 2 ^ 64 → i < 64 → bit_at (bit_and (bit_and w (bit_not w64 a)) (bit_not w64 b)) i ≡ min (min (bit_at w i) (1 - bit_at a i)) (1 - bit_at b i)
left_bit w a b i fits_a fits_b small =
    bit_at_and (bit_and w (bit_not w64 a)) (bit_not w64 b) i
    ∙ ap (λ x. min x (bit_at (bit_not w64 b) i)) (bit_at_and w (bit_not w64 a) i ∙ ap (min (bit_at w i)) (bit_at_not w64 a i fits_a small))
    ∙ ap (min (min (bit_at w i) (1 - bit_at a i))) (bit_at_not w64 b i fits_b small)

-- a bit of which nothing is left, once two others are taken off, is 1 only where one of these is
covered_bit : (x y z : ℕ) → x < 2 → y < 2 → z < 2 → min (min x (1 - y)) (1 - z) ≡ 0 → eqb x 1 ≡ true → (eqb y 1 || eqb z 1) ≡ true
covered_bit zero y z sx sy sz e on = absurd (false≢true on)
covered_bit (suc zero) (suc zero) z sx sy sz e on = refl
covered_bit (suc zero) zero (suc zero) sx sy sz e on = refl
covered_bit (suc zero) zero zero sx sy sz e on = absurd (omega (arith, e))
covered_bit (suc (suc x)) y z sx sy sz e on = absurd (omega (arith, sx))
covered_bit (suc zero) (suc (suc y)) z sx sy sz e on = absurd (omega (arith, sy))
covered_bit (suc zero) zero (suc (suc z)) sx sy sz e on = absurd (omega (arith, sz))

-- nothing is left of a bit, once two others are taken off, where one of these is 1 if it is
no_bit_left : (x y z : ℕ) → x < 2 → y < 2 → z < 2 → (eqb x 1 ≡ true → (eqb y 1 || eqb z 1) ≡ true) → min (min x (1 - y)) (1 - z) ≡ 0
no_bit_left zero y z sx sy sz h = omega arith
no_bit_left (suc zero) (suc zero) z sx sy sz h = omega arith
no_bit_left (suc zero) zero (suc zero) sx sy sz h = omega arith
no_bit_left (suc zero) zero zero sx sy sz h = absurd (false≢true (h refl))
no_bit_left (suc (suc x)) y z sx sy sz h = absurd (omega (arith, sx))
no_bit_left (suc zero) (suc (suc y)) z sx sy sz h = absurd (omega (arith, sy))
no_bit_left (suc zero) zero (suc (suc z)) sx sy sz h = absurd (omega (arith, sz))

-- a word without a bit
pub no_bit_here : (ws : List ℕ) (k q : ℕ) → get_or ws k 0 ≡ 0 → q / 64 ≡ k → bit_in ws q ≡ true → ⊥
unfolding bit_in
no_bit_here ws k q none at on = false≢true (sym (ap (λ j. eqb (bit_at (get_or ws j 0) (q % 64)) 1) at ∙ ap (λ w. eqb (bit_at w (q % 64)) 1) none ∙ ap (λ b. eqb b 1) (bit_at-zero (q % 64))) ∙ on)

module _ (ws xs ys : List ℕ) (k : ℕ) (fits_x : get_or xs k 0 < 2 ^ 64) (fits_y : get_or ys k 0 < 2 ^ 64) where
  -- nothing is left of a word
  pub covered_here : bit_and (bit_and (get_or ws k 0) (bit_not w64 (get_or xs k 0))) (bit_not w64 (get_or ys k 0)) ≡ 0 →
      (q : ℕ) → q / 64 ≡ k → bit_in ws q ≡ true → (bit_in xs q || bit_in ys q) ≡ true
  unfolding bit_in
  covered_here none q at on =
      let i = q % 64 in
      let w = get_or ws k 0 in let x = get_or xs k 0 in let y = get_or ys k 0 in
      let zero' = sym (left_bit w x y i fits_x fits_y (omega arith)) ∙ ap (λ n. bit_at n i) none ∙ bit_at-zero i in
      rw at (covered_bit (bit_at w i) (bit_at x i) (bit_at y i) (bit_at-lt w i) (bit_at-lt x i) (bit_at-lt y i) zero' (sym (ap (λ j. eqb (bit_at (get_or ws j 0) i) 1) at) ∙ on))

  -- something is left of a word
  pub not_covered : k < 6 → get_or ws k 0 < 2 ^ 64 →
      bit_and (bit_and (get_or ws k 0) (bit_not w64 (get_or xs k 0))) (bit_not w64 (get_or ys k 0)) ≢ 0 → IsWithinUnion ws xs ys → ⊥
  unfolding bit_in
  not_covered in_k fits_w some covered =
      let w = get_or ws k 0 in let x = get_or xs k 0 in let y = get_or ys k 0 in
      let left = bit_and (bit_and w (bit_not w64 x)) (bit_not w64 y) in
      let fits : left < 2 ^ 64 = omega (arith, and_le_l (bit_and w (bit_not w64 x)) (bit_not w64 y), and_le_l w (bit_not w64 x)) in
      some (same_from_bits_below 64 left 0 fits (omega arith) (λ i small.
      let word : (64 * k + i) / 64 ≡ k = omega arith in
      let offset : (64 * k + i) % 64 ≡ i = omega arith in
      left_bit w x y i fits_x fits_y small ∙ no_bit_left (bit_at w i) (bit_at x i) (bit_at y i) (bit_at-lt w i) (bit_at-lt x i) (bit_at-lt y i)
      (λ on. sym (ap (λ j. eqb (bit_at (get_or xs j 0) ((64 * k + i) % 64)) 1 || eqb (bit_at (get_or ys j 0) ((64 * k + i) % 64)) 1) word
      ∙ ap (λ j. eqb (bit_at x j) 1 || eqb (bit_at y j) 1) offset)
      ∙ covered (64 * k + i) (omega arith) (ap (λ j. eqb (bit_at (get_or ws j 0) ((64 * k + i) % 64)) 1) word ∙ ap (λ j. eqb (bit_at w j) 1) offset ∙ on))
      ∙ sym (bit_at-zero i)))
