-- Sets of points counted word by word, and the area of a colour as such a set.
use Rattle.std.proofs.Common.{◌≡◌, ℕ, zero, suc, ◌+◌, ◌*◌, ◌/◌, ◌%◌, ◌^◌, ◌<◌, ◌≤◌, Bool, true, false, not, cond, ◌&&◌, ◌||◌, eqb, List, length, get_or, take, drop, map, Option, Some, None}
use Rattle.std.proofs.Common.{count_by, inl, inr, refl, sym, ap, ◌∙◌, arith}
use Rattle.std.specs.Int.{bit_at}
use Rattle.std.specs.List.{range_with_len}
use Rattle.std.specs.Prelude.{count_ones}
use Rattle.std.proofs.lemmas.Bool.{cases_lt, true≢false, false≢true}
use Rattle.std.proofs.lemmas.Bool.Decides.{same_from_decides}
use Rattle.std.proofs.lemmas.List.{get_or-map, get_or-take, get_or-drop, length-map, length-take, length-drop, take_all}
use Rattle.std.proofs.lemmas.List.FromFn.{get_or-range_with_len, length-range_with_len}
use Rattle.std.proofs.lemmas.List.Sums.{sum_by-append, count_by-le-length, length-filter}
use Rattle.std.proofs.lemmas.Nat.Bits.{bit_at-lt, same_from_bits_below}
use Rattle.std.proofs.lemmas.Option.{none-some}
use Rattle.std.proofs.lemmas.Simd.{mask_l-lt, bit_mask_l, ones-mask_l}
use Rattle.std.proofs.Math.ListN.{get_or-eq_default}
use Rattle.std.proofs.Math.Pow.{pow_mono}
use Rattle.std.proofs.Math.Seq.{take-add}
use lib.Lanes.{mask_l}
use Rattle.tt_sgf.specs.declared.size.Size.{Size}
use Rattle.tt_sgf.specs.declared.bits.TheConstants.{BITS}
use Rattle.tt_sgf.specs.Sizes.{point_count}
use Rattle.tt_sgf.specs.laws.SizeLaws.{point_count_is_bounded}
use Rattle.tt_sgf.specs.MachineWords.{bit_in, AreBitsOf}
use Rattle.tt_board.specs.declared.Colour.{Colour}
use Rattle.tt_board.specs.Position.{Colouring}
use Rattle.tt_board.specs.Reach.{entry_at, Reaches}
use Rattle.tt_board.specs.Decided.{reaches, reaches_is_exact}
use Rattle.tt_board.specs.Play.{other, is_stone_of}
use Rattle.tt_board.specs.Score.{counts_for, area_of, score_of}
use Rattle.tt_board.specs.Around.{AreReaching}
use Rattle.tt_board.proofs.AroundLemmas.{off_if}
use Rattle.tt_board.proofs.CountLemmas.{count_same}

-- ---- counts

-- a bit is 1 or 0 by whether it is 1
bit_of : (x : ℕ) (b : Bool) → x < 2 → eqb x 1 ≡ b → x ≡ cond b 1 0
bit_of zero true lt e = absurd (false≢true e)
bit_of zero false lt e = refl
bit_of (suc zero) true lt e = refl
bit_of (suc zero) false lt e = absurd (true≢false e)
bit_of (suc (suc x)) b lt e = absurd (omega arith)

-- the bit of a number, at its index in its word
placed_bit : (words : List ℕ) (n j i : ℕ) → n / 64 ≡ j → n % 64 ≡ i → eqb (bit_at (get_or words j 0) i) 1 ≡ bit_in words n
unfolding bit_in
placed_bit words n j i word index = rw (← word, ← index) refl

-- words whose bits are 0 from the n-th on
module _ (words : List ℕ) (n : ℕ) (past : (q : ℕ) → n ≤ q → q < BITS → bit_in words q ≡ false) where
  -- the numbers of a word's bits, as far as they are below n
  abbrev part : ℕ → List ℕ
  part j = take 64 (drop (64 * j) (range_with_len 0 n))

  length-part : (j : ℕ) → length (part j) ≤ 64
  length-part j = omega (arith, length-take 64 (drop (64 * j) (range_with_len 0 n)))

  -- whether the bit is 1
  bit_there : (j i : ℕ) → j < 6 → i < 64 → bit_in words (64 * j + i) ≡ get_or (map (bit_in words) (part j)) i false
  bit_there j i low small = elim (cases_lt (64 * j + i) n) [
    | inl inside ↦
        let lt : i < length (part j) =
        omega (arith, length-take 64 (drop (64 * j) (range_with_len 0 n)), length-drop (64 * j) (range_with_len 0 n), length-range_with_len 0 n, inside, small) in
        let from : 0 + (64 * j + i) ≡ 64 * j + i = omega arith in
        let there : get_or (part j) i 0 ≡ 64 * j + i =
        get_or-take 64 (drop (64 * j) (range_with_len 0 n)) i 0 small ∙ get_or-drop (64 * j) (range_with_len 0 n) i 0 ∙ get_or-range_with_len 0 n (64 * j + i) 0 inside ∙ from in
        ap (bit_in words) (sym there)
        ∙ sym (get_or-map (bit_in words) (part j) i 0 false lt)
    | inr outside ↦
        let long : length (map (bit_in words) (part j)) ≤ i =
        omega (arith, length-map (part j) (bit_in words), length-take 64 (drop (64 * j) (range_with_len 0 n)), length-drop (64 * j) (range_with_len 0 n), length-range_with_len 0 n, outside) in
        past (64 * j + i) outside (omega (arith, low, small)) ∙ sym (get_or-eq_default (map (bit_in words) (part j)) false long)
  ]

  -- a word has as many ones as there are such numbers
  one_word : (j : ℕ) → j < 6 → get_or words j 0 < 2 ^ 64 → count_ones (get_or words j 0) ≡ count_by (bit_in words) (part j)
  one_word j low fits =
      let ms = map (bit_in words) (part j) in
      let short : length ms ≤ 64 = omega (arith, length-map (part j) (bit_in words), length-part j) in
      let few : mask_l ms < 2 ^ 64 = omega (arith, mask_l-lt ms, pow_mono short) in
      ap count_ones (same_from_bits_below 64 (get_or words j 0) (mask_l ms) fits few (λ i small.
      bit_of (bit_at (get_or words j 0) i) (get_or ms i false) (bit_at-lt (get_or words j 0) i)
      (placed_bit words (64 * j + i) j i (omega arith) (omega arith) ∙ bit_there j i low small)
      ∙ sym (bit_mask_l ms i)))
      ∙ ones-mask_l (bit_in words) (part j)

  -- one more word was counted
  pub counted_more : (j total : ℕ) → j < 6 → get_or words j 0 < 2 ^ 64 → total ≡ count_by (bit_in words) (take (64 * j) (range_with_len 0 n)) →
      total + count_ones (get_or words j 0) ≡ count_by (bit_in words) (take (64 * (j + 1)) (range_with_len 0 n))
  counted_more j total low fits e =
      let next : 64 * (j + 1) ≡ 64 * j + 64 = omega arith in
      ap (λ m. m + count_ones (get_or words j 0)) e ∙ ap (λ m. count_by (bit_in words) (take (64 * j) (range_with_len 0 n)) + m) (one_word j low fits)
      ∙ sym (sum_by-append (λ x. cond (bit_in words x) 1 0) (take (64 * j) (range_with_len 0 n)) (part j))
      ∙ ap (λ xs. count_by (bit_in words) xs) (sym (ap (λ m. take m (range_with_len 0 n)) next ∙ take-add (64 * j) 64 (range_with_len 0 n)))

-- no more numbers were counted than were looked at
pub counted_few : (words : List ℕ) (n j : ℕ) → count_by (bit_in words) (take (64 * j) (range_with_len 0 n)) ≤ 64 * j
counted_few words n j = omega (arith, count_by-le-length (bit_in words) (take (64 * j) (range_with_len 0 n)), length-take (64 * j) (range_with_len 0 n))

-- all words were counted
pub counted_all : (words : List ℕ) (n j : ℕ) → n ≤ 64 * j → count_by (bit_in words) (take (64 * j) (range_with_len 0 n)) ≡ count_by (bit_in words) (range_with_len 0 n)
counted_all words n j all = ap (λ xs. count_by (bit_in words) xs) (take_all (64 * j) (range_with_len 0 n) (omega (arith, all, length-range_with_len 0 n)))

-- ---- the area

-- the stones of a colour, and the empty points that reach it and not the other one
module _ (s : Size) (c : Colouring) (k : Colour) (fits : length c ≡ point_count s) (stones own others alone area : List ℕ)
    (stones_are : AreBitsOf stones (length c) (λ p. is_stone_of (entry_at c p) k)) (own_are : AreReaching s own c None (Some k)) (others_are : AreReaching s others c None (Some (other k)))
    (alone_is : (q : ℕ) → q < BITS → bit_in alone q ≡ (bit_in own q && not (bit_in others q))) (area_is : (q : ℕ) → q < BITS → bit_in area q ≡ (bit_in stones q || bit_in alone q)) where
  -- all of them are on the board, where those that reach are
  pub area_on : ((q : ℕ) → point_count s ≤ q → q < BITS → bit_in own q ≡ false) → (q : ℕ) → point_count s ≤ q → q < BITS → bit_in area q ≡ false
  area_on on q past lt = area_is q lt ∙ rw (stones_are.behind q (omega (arith, past, fits)) lt, alone_is q lt, on q past lt) refl

  -- of an empty point the bits say whether it reaches
  empty_bits : (words : List ℕ) (e : Option Colour) → AreReaching s words c None e → (p : ℕ) → p < point_count s → entry_at c p ≡ None → bit_in words p ≡ reaches s c p e
  empty_bits words e are p in_p bare =
      same_from_decides {P = Reaches s c p e} (bit_in words p) (reaches s c p e) ((λ on. ((are p in_p).0 on).1), (λ r. (are p in_p).1 (bare, r))) (reaches_is_exact s c p e in_p)

  -- a point has its bit where it counts
  counts : (p : ℕ) → p < point_count s → bit_in area p ≡ counts_for s c k p
  counts p in_p = here (entry_at c p) refl
    where
      lt : p < BITS
      lt = omega (arith, in_p, point_count_is_bounded s)

      is : bit_in area p ≡ (is_stone_of (entry_at c p) k || (bit_in own p && not (bit_in others p)))
      is = area_is p lt ∙ rw (stones_are.below p (omega (arith, in_p, fits)) lt, alone_is p lt) refl

      here : (x : Option Colour) → entry_at c p ≡ x → bit_in area p ≡ counts_for s c k p
      here None e = is ∙ rw (e, empty_bits own (Some k) own_are p in_p e, empty_bits others (Some (other k)) others_are p in_p e) refl
      here (Some j) e =
          let off : bit_in own p ≡ false = off_if (bit_in own p) (λ on. none-some j (sym ((own_are p in_p).0 on).0 ∙ e)) in
          is ∙ rw (off, e) refl

  -- so they are as many as the score says
  pub area_counted : count_by (bit_in area) (range_with_len 0 (point_count s)) ≡ score_of s c k
  unfolding score_of area_of
  area_counted = count_same (counts_for s c k) (bit_in area) (point_count s) (λ p in_p. sym (counts p in_p)) ∙ sym (length-filter (counts_for s c k) (range_with_len 0 (point_count s)))
