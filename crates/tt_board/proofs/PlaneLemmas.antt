-- Colourings as bits in words.
use Rattle.std.proofs.Common.{◌≡◌, ℕ, ◌<◌, ◌≤◌, Bool, true, false, ◌||◌, List, length, set as put, replicate, Option, Some, None, refl, sym, ap, ◌∙◌, arith, inl, inr}
use Rattle.std.proofs.lemmas.Bool.{cases_lt, cases_eq, true≢false, false≢true}
use Rattle.std.proofs.lemmas.List.{get_or-set_same, get_or-set_other, length-set, get_or-replicate, length-replicate, get_or_past}
use Rattle.std.proofs.lemmas.List.FromFn.{get_or-map-range_with_len, length-map-range_with_len, fill_by_all}
use Rattle.tt_board.specs.declared.Colour.{Colour}
use Rattle.tt_board.specs.declared.Colour.TheVariants.{Black, White}
use Rattle.tt_board.specs.Position.{Colouring}
use Rattle.tt_board.specs.Reach.{entry_at}
use Rattle.tt_board.specs.Play.{is_stone_of}
use Rattle.tt_board.specs.inside.Planes.{entry_of_bits, shown, IsPlain}
use Rattle.tt_sgf.specs.MachineWords.{bit_in, AreSameBits, AreBitsOf}

-- neither of two is so where not one of them is
pub neither : (a b : Bool) → (a || b) ≡ false → (a ≡ false) × (b ≡ false)
neither true b h = absurd (true≢false h)
neither false b h = (refl, h)

-- the words show as many points as are asked for
pub length-shown : (n : ℕ) (black white : List ℕ) → length (shown n black white) ≡ n
unfolding shown
length-shown n black white = length-map-range_with_len _ 0 n

-- what is shown on a point is what its bits say
pub entry_at-shown : (n : ℕ) (black white : List ℕ) (p : ℕ) → p < n → entry_at (shown n black white) p ≡ entry_of_bits (bit_in black p) (bit_in white p)
unfolding shown
entry_at-shown n black white p in_p = get_or-map-range_with_len (λ q. entry_of_bits (bit_in black q) (bit_in white q)) 0 n p p None in_p (omega arith)

-- a list with these entries is what the words show
pub shown_from : (n : ℕ) (black white : List ℕ) (c : Colouring) → length c ≡ n → ((p : ℕ) → p < n → entry_at c p ≡ entry_of_bits (bit_in black p) (bit_in white p)) → c ≡ shown n black white
unfolding shown
shown_from n black white c fits each = fill_by_all (λ q. entry_of_bits (bit_in black q) (bit_in white q)) c n None fits each

-- what is known of a list that words show
module _ (n : ℕ) (black white : List ℕ) (c : Colouring) (is : shown n black white ≡ c) where
  -- it has as many entries as are shown, each what its bits say
  pub count_is : length c ≡ n
  count_is = sym (ap length is) ∙ length-shown n black white

  pub entry_is : (p : ℕ) → p < length c → entry_at c p ≡ entry_of_bits (bit_in black p) (bit_in white p)
  entry_is p in_c = sym (ap (λ xs. entry_at xs p) is) ∙ entry_at-shown n black white p (omega (arith, count_is))

-- an entry is known by whose stone it is
by_stones : (e : Option Colour) → entry_of_bits (is_stone_of e Black) (is_stone_of e White) ≡ e
by_stones None = refl
by_stones (Some Black) = refl
by_stones (Some White) = refl

-- an entry is a stone of one colour at the most
one_stone : (e : Option Colour) → is_stone_of e Black ≡ true → is_stone_of e White ≡ false
one_stone None h = refl
one_stone (Some Black) h = refl
one_stone (Some White) h = absurd (false≢true h)

-- words in which one point's bits are those of an entry
module _ (n : ℕ) (black white new_black new_white : List ℕ) (p : ℕ) (e : Option Colour) (plain : IsPlain n black white) (in_n : p < n)
    (black_same : bit_in new_black p ≡ is_stone_of e Black) (white_same : bit_in new_white p ≡ is_stone_of e White)
    (black_others : (q : ℕ) → q < 384 → (q ≡ p → ⊥) → bit_in new_black q ≡ bit_in black q)
    (white_others : (q : ℕ) → q < 384 → (q ≡ p → ⊥) → bit_in new_white q ≡ bit_in white q) where
  -- they are plain again
  pub plain_after : IsPlain n new_black new_white
  plain_after = record {
    small = plain.small;
    apart = λ q lt on. elim (cases_eq q p) [
      | inl same ↦ ap (bit_in new_white) same ∙ white_same ∙ one_stone e (sym black_same ∙ sym (ap (bit_in new_black) same) ∙ on)
      | inr other ↦ white_others q lt other ∙ plain.apart q lt (sym (black_others q lt other) ∙ on)
    ];
    black_ends = λ q above lt. black_others q lt (λ same. absurd (omega arith)) ∙ plain.black_ends q above lt;
    white_ends = λ q above lt. white_others q lt (λ same. absurd (omega arith)) ∙ plain.white_ends q above lt;
  }

  -- and show the colouring with that entry
  pub shown_after : (c : Colouring) → shown n black white ≡ c → shown n new_black new_white ≡ put c p e
  shown_after c is =
      let count = count_is n black white c is in
      sym (shown_from n new_black new_white (put c p e) (length-set c p e ∙ count) (λ q below.
      elim (cases_eq q p) [
        | inl same ↦ rw same (get_or-set_same c p e None (omega arith) ∙ sym (by_stones e) ∙ rw (← black_same, ← white_same) refl)
        | inr other ↦
            let b = black_others q (omega (arith, plain.small)) other in
            let w = white_others q (omega (arith, plain.small)) other in
            get_or-set_other c p q e None other ∙ entry_is n black white c is q (omega arith) ∙ rw (← b, ← w) refl
      ]))

-- words without any bit
module _ (n : ℕ) (small : n ≤ 361) (black white : List ℕ) (no_black : (q : ℕ) → q < 384 → bit_in black q ≡ false) (no_white : (q : ℕ) → q < 384 → bit_in white q ≡ false) where
  -- they are plain
  pub plain_none : IsPlain n black white
  plain_none = record {
    small = small;
    apart = λ q lt on. no_white q lt;
    black_ends = λ q above lt. no_black q lt;
    white_ends = λ q above lt. no_white q lt;
  }

  -- and show an empty board
  pub shown_none : shown n black white ≡ replicate n None
  shown_none = sym (shown_from n black white (replicate n None) (length-replicate {A = Option Colour} n None) (λ q below.
      get_or-replicate {A = Option Colour} n q None None below ∙ rw (no_black q (omega arith), no_white q (omega arith)) refl))

-- the bits of a plain pair of words are those of its entries
bits_of : (n : ℕ) (black white : List ℕ) → IsPlain n black white → (p : ℕ) → p < 384
    → (bit_in black p ≡ is_stone_of (entry_at (shown n black white) p) Black) × (bit_in white p ≡ is_stone_of (entry_at (shown n black white) p) White)
bits_of n black white plain p lt = elim (cases_lt p n) [
  | inl below ↦
      let e = entry_at-shown n black white p below in
      rw e (bits (bit_in black p) (bit_in white p) (plain.apart p lt))
  | inr above ↦
      let past : entry_at (shown n black white) p ≡ None = get_or_past (shown n black white) p None (omega (arith, length-shown n black white)) in
      rw (past, plain.black_ends p above lt, plain.white_ends p above lt) (refl, refl)
]
  where
    bits : (b w : Bool) → (b ≡ true → w ≡ false) → (b ≡ is_stone_of (entry_of_bits b w) Black) × (w ≡ is_stone_of (entry_of_bits b w) White)
    bits true w apart = (refl, apart refl)
    bits false true apart = (refl, refl)
    bits false false apart = (refl, refl)

-- each entry is what its bits say, past the last point too
pub entry_by_bits : (n : ℕ) (black white : List ℕ) (c : Colouring) → shown n black white ≡ c → IsPlain n black white → (p : ℕ) → p < 384
    → entry_at c p ≡ entry_of_bits (bit_in black p) (bit_in white p)
entry_by_bits n black white c is plain p lt =
    let bits = bits_of n black white plain p lt in
    ap (λ xs. entry_at xs p) (sym is) ∙ sym (by_stones (entry_at (shown n black white) p)) ∙ rw (← bits.0, ← bits.1) refl

-- where the bits of two plain pairs of words are alike, so are their entries
pub entries_alike : (n m : ℕ) (a b c d : List ℕ) (xs ys : Colouring) → shown n a b ≡ xs → shown m c d ≡ ys → IsPlain n a b → IsPlain m c d
    → (q : ℕ) → q < 384 → bit_in a q ≡ bit_in c q → bit_in b q ≡ bit_in d q → entry_at xs q ≡ entry_at ys q
entries_alike n m a b c d xs ys first second plain other q small blacks whites =
    entry_by_bits n a b xs first plain q small ∙ rw (blacks, whites) refl ∙ sym (entry_by_bits m c d ys second other q small)

-- plain pairs of words show one colouring exactly where their bits agree
module _ (n m : ℕ) (a b c d : List ℕ) (xs ys : Colouring) (counts : n ≡ m) (first : shown n a b ≡ xs) (second : shown m c d ≡ ys) (plain : IsPlain n a b) where
  -- the same bits show the same colouring
  pub shown_same : AreSameBits a c → AreSameBits b d → xs ≡ ys
  shown_same blacks whites = sym first ∙ shown_from m c d (shown n a b) (length-shown n a b ∙ counts) (λ p below.
      let small : p < 384 = omega (arith, plain.small) in
      entry_at-shown n a b p (omega arith) ∙ rw (blacks p small, whites p small) refl) ∙ second

  one : xs ≡ ys → shown n a b ≡ shown m c d
  one same = first ∙ same ∙ sym second

  -- the same colouring has the same bits, Black's and White's
  pub blacks_same : IsPlain m c d → xs ≡ ys → AreSameBits a c
  blacks_same other same q small =
      (bits_of n a b plain q small).0 ∙ ap (λ zs. is_stone_of (entry_at zs q) Black) (one same) ∙ sym (bits_of m c d other q small).0

  pub whites_same : IsPlain m c d → xs ≡ ys → AreSameBits b d
  whites_same other same q small =
      (bits_of n a b plain q small).1 ∙ ap (λ zs. is_stone_of (entry_at zs q) White) (one same) ∙ sym (bits_of m c d other q small).1

-- words whose bits are the stones of a colour
bits_handed : (words : List ℕ) (k : Colour) (c : Colouring) → ((p : ℕ) → p < 384 → bit_in words p ≡ is_stone_of (entry_at c p) k) → AreBitsOf words (length c) (λ p. is_stone_of (entry_at c p) k)
bits_handed words k c bits = record {
  below = λ p on_board small. bits p small;
  behind = λ p past small. bits p small ∙ ap (λ e. is_stone_of e k) (get_or_past c p None past);
}

-- the words of a plain pair are the bits of the stones of a colour
module _ (n : ℕ) (black white : List ℕ) (c : Colouring) (is : shown n black white ≡ c) (plain : IsPlain n black white) where
  -- Black's words have the bits of the black stones, White's those of the white ones
  pub blacks_handed : AreBitsOf black (length c) (λ p. is_stone_of (entry_at c p) Black)
  blacks_handed = bits_handed black Black c (λ p small. (bits_of n black white plain p small).0 ∙ ap (λ xs. is_stone_of (entry_at xs p) Black) is)

  pub whites_handed : AreBitsOf white (length c) (λ p. is_stone_of (entry_at c p) White)
  whites_handed = bits_handed white White c (λ p small. (bits_of n black white plain p small).1 ∙ ap (λ xs. is_stone_of (entry_at xs p) White) is)
