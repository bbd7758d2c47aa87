-- Words moved by some bits, alone and six in a row.
use Rattle.std.proofs.Common.{◌≡◌, ℕ, ◌+◌, ◌-◌, ◌*◌, ◌/◌, ◌%◌, ◌^◌, ◌<◌, ◌≤◌, false, eqb, max, List, get_or, sym, ap, ◌∙◌, arith, inl, inr}
use Rattle.std.proofs.lemmas.Bool.{cases_lt, cases_eq}
use Rattle.std.proofs.lemmas.Nat.{shr-shr, pow_pos, div-add-mod'}
use Rattle.std.proofs.lemmas.Nat.Bits.{bit_at-zero, bit_at_or, bit_at_above, bit_at_cat_low, bit_at_cat_high}
use Rattle.std.specs.Int.{bit_at}
use Rattle.std.specs.Prelude.{bit_or}
use Rattle.tt_sgf.specs.declared.bits.TheConstants.{BITS}
use Rattle.tt_sgf.specs.MachineWords.{bit_in, IsShiftedLeft, IsShiftedRight}

-- ---- one word

-- a bit of a word moved down is the one k places above
bit_at_down : (n k i : ℕ) → bit_at (n / 2 ^ k) i ≡ bit_at n (i + k)
bit_at_down n k i =
    let turned : k + i ≡ i + k = omega arith in
    ap (λ x. x % 2) (shr-shr n k i) ∙ ap (λ j. bit_at n j) turned

-- a cut at 64 bits keeps those below
bit_at_cut : (m i : ℕ) → i < 64 → bit_at (m % 2 ^ 64) i ≡ bit_at m i
bit_at_cut m i small = sym (bit_at_cat_low (m / 2 ^ 64) 64 (m % 2 ^ 64) i small) ∙ ap (λ x. bit_at x i) (div-add-mod' m (2 ^ 64))

-- a word moved up has 0 in the room that this makes
bit_at_room : (n k i : ℕ) → i < k → i < 64 → bit_at (n * 2 ^ k % 2 ^ 64) i ≡ 0
bit_at_room n k i low small =
    let none : n * 2 ^ k ≡ n * 2 ^ k + 0 = omega arith in
    bit_at_cut (n * 2 ^ k) i small ∙ ap (λ x. bit_at x i) none ∙ bit_at_cat_low n k 0 i low ∙ bit_at-zero i

-- and behind it the bits k places below
bit_at_up : (n k i : ℕ) → k ≤ i → i < 64 → bit_at (n * 2 ^ k % 2 ^ 64) i ≡ bit_at n (i - k)
bit_at_up n k i high small =
    let none : n * 2 ^ k ≡ n * 2 ^ k + 0 = omega arith in
    bit_at_cut (n * 2 ^ k) i small ∙ ap (λ x. bit_at x i) none ∙ bit_at_cat_high n k 0 i (pow_pos k) high

-- a word moved up takes its lowest bits from the highest of the other
pub up_word : (word below k : ℕ) → below < 2 ^ 64 → k < 64 → IsShiftedLeft (bit_or (word * 2 ^ k % 2 ^ 64) (below / 2 ^ (64 - k))) word below k
up_word word below k fits few = λ i small.
    let both = bit_at_or (word * 2 ^ k % 2 ^ 64) (below / 2 ^ (64 - k)) i ∙ ap (max (bit_at (word * 2 ^ k % 2 ^ 64) i)) (bit_at_down below (64 - k) i) in (
      λ high. omega (arith, both, bit_at_up word k i high small, bit_at_above below 64 (i + (64 - k)) fits (omega arith)),
      λ low.
          let same : i + (64 - k) ≡ i + 64 - k = omega arith in
          omega (arith, both, bit_at_room word k i low small, ap (bit_at below) same),
    )

-- a word moved down takes its highest bits from the lowest of the other
pub down_word : (word above k : ℕ) → word < 2 ^ 64 → k < 64 → IsShiftedRight (bit_or (word / 2 ^ k) (above * 2 ^ (64 - k) % 2 ^ 64)) word above k
down_word word above k fits few = λ i small.
    let both = bit_at_or (word / 2 ^ k) (above * 2 ^ (64 - k) % 2 ^ 64) i ∙ ap (λ x. max x (bit_at (above * 2 ^ (64 - k) % 2 ^ 64) i)) (bit_at_down word k i) in (
      λ low. omega (arith, both, bit_at_room above (64 - k) i (omega arith) small),
      λ high.
          let same : i - (64 - k) ≡ i + k - 64 = omega arith in
          omega (arith, both, bit_at_up above (64 - k) i (omega arith) small, ap (bit_at above) same, bit_at_above word 64 (i + k) fits high),
    )

-- ---- six words

module _ (made words : List ℕ) (k : ℕ) (few : k < 64) where
  module _ (first : IsShiftedLeft (get_or made 0 0) (get_or words 0 0) 0 k) (rest : (j : ℕ) → 0 < j → j < 6 → IsShiftedLeft (get_or made j 0) (get_or words j 0) (get_or words (j - 1) 0) k) where
    -- six words moved up: each bit comes from k places below
    pub up_moved : (q : ℕ) → q + k < BITS → bit_in made (q + k) ≡ bit_in words q
    unfolding bit_in
    up_moved q lt =
        let j = (q + k) / 64 in let i = (q + k) % 64 in
        elim (cases_lt i k) [
          | inl low ↦
              let word : j - 1 ≡ q / 64 = omega arith in
              let offset : i + 64 - k ≡ q % 64 = omega arith in
              ap (λ x. eqb x 1) ((rest j (omega arith) (omega arith) i (omega arith)).1 low) ∙ ap (λ x. eqb (bit_at (get_or words x 0) (i + 64 - k)) 1) word
              ∙ ap (λ x. eqb (bit_at (get_or words (q / 64) 0) x) 1) offset
          | inr high ↦
              let word : j ≡ q / 64 = omega arith in
              let offset : i - k ≡ q % 64 = omega arith in
              elim (cases_eq j 0) [
                | inl at ↦
                    let at' : q / 64 ≡ 0 = omega arith in
                    ap (λ x. eqb (bit_at (get_or made x 0) i) 1) at ∙ ap (λ x. eqb x 1) ((first i (omega arith)).0 high) ∙ ap (λ x. eqb (bit_at (get_or words 0 0) x) 1) offset
                    ∙ ap (λ x. eqb (bit_at (get_or words x 0) (q % 64)) 1) (sym at')
                | inr apart ↦
                    ap (λ x. eqb x 1) ((rest j (omega (arith, apart)) (omega arith) i (omega arith)).0 high) ∙ ap (λ x. eqb (bit_at (get_or words x 0) (i - k)) 1) word
                    ∙ ap (λ x. eqb (bit_at (get_or words (q / 64) 0) x) 1) offset
              ]
        ]

    -- and the first k are 0
    pub up_low : (q : ℕ) → q < k → bit_in made q ≡ false
    unfolding bit_in
    up_low q lt =
        let word : q / 64 ≡ 0 = omega arith in
        let offset : q % 64 ≡ q = omega arith in
        ap (λ x. eqb (bit_at (get_or made x 0) (q % 64)) 1) word ∙ ap (λ x. eqb (bit_at (get_or made 0 0) x) 1) offset
        ∙ ap (λ x. eqb x 1) ((first q (omega arith)).1 lt ∙ bit_at-zero (q + 64 - k))

  module _ (last : IsShiftedRight (get_or made 5 0) (get_or words 5 0) 0 k) (rest : (j : ℕ) → j < 5 → IsShiftedRight (get_or made j 0) (get_or words j 0) (get_or words (j + 1) 0) k) where
    -- six words moved down: each bit comes from k places above
    pub down_moved : (q : ℕ) → q + k < BITS → bit_in made q ≡ bit_in words (q + k)
    unfolding bit_in
    down_moved q lt =
        let j = q / 64 in let i = q % 64 in
        elim (cases_lt (i + k) 64) [
          | inl low ↦
              let word : j ≡ (q + k) / 64 = omega arith in
              let offset : i + k ≡ (q + k) % 64 = omega arith in
              elim (cases_eq j 5) [
                | inl at ↦
                    let at' : (q + k) / 64 ≡ 5 = omega arith in
                    ap (λ x. eqb (bit_at (get_or made x 0) i) 1) at ∙ ap (λ x. eqb x 1) ((last i (omega arith)).0 low) ∙ ap (λ x. eqb (bit_at (get_or words 5 0) x) 1) offset
                    ∙ ap (λ x. eqb (bit_at (get_or words x 0) ((q + k) % 64)) 1) (sym at')
                | inr apart ↦
                    ap (λ x. eqb x 1) ((rest j (omega (arith, apart)) i (omega arith)).0 low) ∙ ap (λ x. eqb (bit_at (get_or words x 0) (i + k)) 1) word
                    ∙ ap (λ x. eqb (bit_at (get_or words ((q + k) / 64) 0) x) 1) offset
              ]
          | inr high ↦
              let word : j + 1 ≡ (q + k) / 64 = omega arith in
              let offset : i + k - 64 ≡ (q + k) % 64 = omega arith in
              ap (λ x. eqb x 1) ((rest j (omega arith) i (omega arith)).1 high) ∙ ap (λ x. eqb (bit_at (get_or words x 0) (i + k - 64)) 1) word
              ∙ ap (λ x. eqb (bit_at (get_or words ((q + k) / 64) 0) x) 1) offset
        ]

    -- and the last k are 0
    pub down_high : (q : ℕ) → BITS ≤ q + k → q < BITS → bit_in made q ≡ false
    unfolding bit_in
    down_high q end lt =
        let word : q / 64 ≡ 5 = omega arith in
        ap (λ x. eqb (bit_at (get_or made x 0) (q % 64)) 1) word
        ∙ ap (λ x. eqb x 1) ((last (q % 64) (omega arith)).1 (omega arith) ∙ bit_at-zero (q % 64 + k - 64))
