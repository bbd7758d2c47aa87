-- Colourings kept by their differences.
use Rattle.std.proofs.Common.{◌≡◌, ◌≢◌, ℕ, ◌+◌, ◌-◌, ◌*◌, ◌/◌, ◌%◌, ◌^◌, ◌<◌, ◌≤◌, false, List, [], ◌∷◌, ◌++◌, length, take, drop, get_or, set as put, Option, Some, None}
use Rattle.std.proofs.Common.{refl, sym, ap, subst, ◌∙◌, arith, inl, inr}
use Rattle.std.proofs.lemmas.Bool.{cases_lt, cases_eq}
use Rattle.std.proofs.lemmas.List.{append-nil, append_assoc, length-set, get_or-set_same, get_or-set_other, ext_get_or}
use Rattle.std.proofs.lemmas.List.{get_or_past}
use Rattle.std.proofs.lemmas.Nat.{shr-shr, shr_le}
use Rattle.std.proofs.lemmas.Nat.Bits.{bit_at-zero, bit_at-trailing_zeros, bit_at_above}
use Rattle.std.specs.Int.{w64, bit_at, trailing_zeros}
use Rattle.tt_sgf.specs.MachineWords.{bit_in}
use Rattle.std.proofs.lemmas.List.{length-take, take_at, take_more, take-append-drop, take-append-le}
use Rattle.tt_board.specs.declared.Colour.{Colour}
use Rattle.tt_board.specs.declared.boards.differences.Edit.{Edit}
use Rattle.tt_board.specs.declared.boards.differences.Edit.TheVariants.{Black, White, Empty, Whole}
use Rattle.tt_board.specs.Position.{Colouring}
use Rattle.tt_board.specs.Reach.{entry_at}
use Rattle.tt_board.specs.inside.Differences.{edited, finished, colourings_from}
use Rattle.tt_board.specs.inside.Boards.{edit_of, led, IsLed, IsHalf, AreAlikeBy}

-- ---- one more edit

-- one more edit changes what the others led to
led_push : (c : Colouring) (es : List Edit) (e : Edit) → led c (es ++ e ∷ []) ≡ edited (led c es) e
led_push c [] e = refl
led_push c (x ∷ es) e = led_push (edited c x) es e

-- the next edit of a list changes what those before it led to
pub led_more : (c : Colouring) (es : List Edit) (i : ℕ) (d : Edit) → i < length es → led c (take (i + 1) es) ≡ edited (led c (take i es)) (get_or es i d)
led_more c es i d inside = ap (led c) (take_more es i d inside) ∙ led_push c (take i es) (get_or es i d)

-- one more edit adds the colouring that it finishes, or none
from_push : (c : Colouring) (es : List Edit) (e : Edit) → colourings_from c (es ++ e ∷ []) ≡ colourings_from c es ++ finished (led c es) e
from_push c [] e = append-nil (finished c e)
from_push c (x ∷ es) e =
    ap (λ cs. finished c x ++ cs) (from_push (edited c x) es e) ∙ sym (append_assoc (finished c x) (colourings_from (edited c x) es) (finished (led (edited c x) es) e))

-- an edit keeps the number of entries
length_edited : (c : Colouring) (e : Edit) → length (edited c e) ≡ length c
length_edited c (Black p) = length-set c p (Some Colour.Black)
length_edited c (White p) = length-set c p (Some Colour.White)
length_edited c (Empty p) = length-set c p None
length_edited c Whole = refl

-- so do edits one after another
pub length_led : (c : Colouring) (es : List Edit) → length (led c es) ≡ length c
length_led c [] = refl
length_led c (e ∷ es) = length_led (edited c e) es ∙ length_edited c e

-- the edit of an entry puts it on its point, and finishes no colouring
edited_entry : (c : Colouring) (p : ℕ) (e : Option Colour) → edited c (edit_of p e) ≡ put c p e
edited_entry c p (Some Colour.Black) = refl
edited_entry c p (Some Colour.White) = refl
edited_entry c p None = refl

finished_none : (c : Colouring) (p : ℕ) (e : Option Colour) → finished c (edit_of p e) ≡ []
finished_none c p (Some Colour.Black) = refl
finished_none c p (Some Colour.White) = refl
finished_none c p None = refl

-- ---- from one colouring to the next

-- entries that are the same in both count as led on
pub half_more : (here there c : Colouring) (n m : ℕ) → IsHalf here there n c → n ≤ m → ((q : ℕ) → n ≤ q → q < m → entry_at here q ≡ entry_at there q) → IsHalf here there m c
half_more here there c n m h le alike = record {
  same_length = h.same_length;
  first = λ q below. elim (cases_lt q n) [
    | inl done ↦ h.first q done
    | inr next ↦ h.others q next ∙ alike q next below
  ];
  others = λ q above. h.others q (omega arith);
}

-- one more entry is led on
half_set : (here there c : Colouring) (n : ℕ) → IsHalf here there n c → n < length here → IsHalf here there (n + 1) (put c n (entry_at there n))
half_set here there c n h below = record {
  same_length = length-set c n (entry_at there n) ∙ h.same_length;
  first = λ q lt. elim (cases_eq q n) [
    | inl same ↦ rw same (get_or-set_same c n (entry_at there n) None (omega (arith, h.same_length)))
    | inr other ↦ get_or-set_other c n q (entry_at there n) None other ∙ h.first q (let d : q ≢ n = other in omega arith)
  ];
  others = λ q above. get_or-set_other c n q (entry_at there n) None (λ e. absurd (omega arith)) ∙ h.others q (omega arith);
}

-- once all entries are led on, the colouring is that there
half_done : (here there c : Colouring) (n : ℕ) → IsHalf here there n c → length here ≡ length there → length here ≤ n → c ≡ there
half_done here there c n h fits all =
    let counts = h.same_length in
    ext_get_or None c there (counts ∙ fits) (λ q below. h.first q (omega (arith, below, counts)))

-- an edit for an entry leads on to the next one that differs
pub half_pushed : (here there c : Colouring) (es new : List Edit) (p next : ℕ) → IsHalf here there p (led c es)
    → new ≡ es ++ edit_of p (entry_at there p) ∷ [] → p < length here → p + 1 ≤ next
    → ((q : ℕ) → p + 1 ≤ q → q < next → entry_at here q ≡ entry_at there q) → IsHalf here there next (led c new)
half_pushed here there c es new p next h is below le alike =
    subst (IsHalf here there next) (sym (ap (led c) is ∙ led_push c es (edit_of p (entry_at there p)) ∙ edited_entry (led c es) p (entry_at there p)))
    (half_more here there (put (led c es) p (entry_at there p)) (p + 1) next (half_set here there (led c es) p h below) le alike)

-- ---- the points of a word

-- a bit of a word is that of its number among all words' bits
pub word_bit : (words : List ℕ) (k i : ℕ) → i < 64 → bit_at (get_or words k 0) i ≡ 0 → bit_in words (64 * k + i) ≡ false
unfolding bit_in
word_bit words k i small none =
    let word : (64 * k + i) / 64 ≡ k = omega arith in
    let index : (64 * k + i) % 64 ≡ i = omega arith in
    rw (word, index, none) refl

-- what is left of a word from the bit of one point on
module _ (word from p rest : ℕ) (after : from ≤ p) (is : rest ≡ word / 2 ^ (p - from)) where
  -- its bits are the word's
  left_bit : (q : ℕ) → p ≤ q → bit_at rest (q - p) ≡ bit_at word (q - from)
  left_bit q on =
      let index : p - from + (q - p) ≡ q - from = omega arith in
      ap (λ x. bit_at x (q - p)) is ∙ ap (λ x. x % 2) (shr-shr word (p - from) (q - p)) ∙ ap (bit_at word) index

  -- a point whose bit is 0 has the same entry in both
  alike_left : (here there : Colouring) → AreAlikeBy word from here there → (q : ℕ) → p ≤ q → q < from + 64 → bit_at rest (q - p) ≡ 0 → entry_at here q ≡ entry_at there q
  alike_left here there alike q on inside none =
      let back : from + (q - from) ≡ q = omega arith in
      subst (λ n. entry_at here n ≡ entry_at there n) back (alike (q - from) (omega arith) (sym (left_bit q on) ∙ none))

  -- where nothing is left, all further points do
  pub half_left : (here there c : Colouring) → AreAlikeBy word from here there → IsHalf here there p c → p ≤ from + 64 → rest ≡ 0 → IsHalf here there (from + 64) c
  half_left here there c alike h within none =
      half_more here there c p (from + 64) h within (λ q on inside. alike_left here there alike q on inside (ap (λ x. bit_at x (q - p)) none ∙ bit_at-zero (q - p)))

  -- what is left behind one more bit
  pub left_next : (t : ℕ) → rest / 2 ^ t / 2 ≡ word / 2 ^ (p + t + 1 - from)
  left_next t =
      let index : p - from + t + 1 ≡ p + t + 1 - from = omega arith in
      ap (λ x. x / 2 ^ t / 2) is ∙ ap (λ x. x / 2) (shr-shr word (p - from) t) ∙ shr-shr word (p - from + t) 1 ∙ ap (λ n. word / 2 ^ n) index

  module _ (some : 0 < rest) (fits : word < 2 ^ 64) where
    lowest : (trailing_zeros w64 rest < 64) × (bit_at rest (trailing_zeros w64 rest) ≡ 1) × ((i : ℕ) → i < trailing_zeros w64 rest → bit_at rest i ≡ 0)
    lowest = bit_at-trailing_zeros w64 rest some (omega (arith, is, shr_le word (p - from)))

    -- the lowest bit that is left is one of the word's
    pub lowest_inside : p + trailing_zeros w64 rest < from + 64
    lowest_inside = elim (cases_lt (p + trailing_zeros w64 rest) (from + 64)) [
      | inl below ↦ below
      | inr above ↦
          let back : p + trailing_zeros w64 rest - p ≡ trailing_zeros w64 rest = omega arith in
          let one : bit_at word (p + trailing_zeros w64 rest - from) ≡ 1 = sym (left_bit (p + trailing_zeros w64 rest) (omega arith)) ∙ ap (bit_at rest) back ∙ lowest.1 in
          absurd (omega (arith, one, bit_at_above word 64 (p + trailing_zeros w64 rest - from) fits (omega arith)))
    ]

    -- the points before it have the same entries in both
    pub half_skipped : (here there c : Colouring) → AreAlikeBy word from here there → IsHalf here there p c → IsHalf here there (p + trailing_zeros w64 rest) c
    half_skipped here there c alike h = half_more here there c p (p + trailing_zeros w64 rest) h (omega arith) (λ q on before.
        alike_left here there alike q on (omega (arith, lowest_inside)) (lowest.2 (q - p) (omega arith)))

-- no point past the last one differs
pub half_past : (here there c : Colouring) (n m : ℕ) → IsHalf here there n c → n ≤ m → length here ≡ length there → length there ≤ n → IsHalf here there m c
half_past here there c n m h le fits past = half_more here there c n m h le (λ q on before.
    get_or_past here q None (omega arith) ∙ sym (get_or_past there q None (omega arith)))

-- an edit for the entry of a point leads on to the next point
pub half_edited : (here there c : Colouring) (es new : List Edit) (p : ℕ) → IsHalf here there p (led c es)
    → new ≡ es ++ edit_of p (entry_at there p) ∷ [] → p < length here → IsHalf here there (p + 1) (led c new)
half_edited here there c es new p h is below = half_pushed here there c es new p (p + 1) h is below (omega arith) (λ q on before. absurd (omega arith))

-- an edit of an entry finishes no colouring
pub from_same : (c : Colouring) (es new : List Edit) (p : ℕ) (e : Option Colour) → new ≡ es ++ edit_of p e ∷ [] → colourings_from c new ≡ colourings_from c es
from_same c es new p e is =
    ap (colourings_from c) is ∙ from_push c es (edit_of p e) ∙ ap (λ cs. colourings_from c es ++ cs) (finished_none (led c es) p e) ∙ append-nil (colourings_from c es)

-- once all entries are led on, the edits lead there and finish that colouring
pub led_whole : (here there : Colouring) (old es new : List Edit) (p : ℕ)
    → ((c : Colouring) → led c old ≡ here → IsHalf here there p (led c es))
    → ((c : Colouring) → colourings_from c es ≡ colourings_from c old)
    → new ≡ es ++ Whole ∷ [] → length here ≡ length there → length here ≤ p → IsLed old new here there
led_whole here there old es new p half same is fits all = record {
  points = λ c from. ap (led c) is ∙ led_push c es Whole ∙ done c from;
  colourings = λ c from. ap (colourings_from c) is ∙ from_push c es Whole
      ∙ ap (λ cs. cs ++ finished (led c es) Whole) (same c)
      ∙ ap (λ (x : Colouring). colourings_from c old ++ finished x Whole) (done c from);
}
  where
    done : (c : Colouring) → led c old ≡ here → led c es ≡ there
    done c from = half_done here there (led c es) p (half c from) fits all

-- what more than the items of a list begin with stays at the front of it
pub front_kept : (old es new : List Edit) → take (length old) es ≡ old → take (length es) new ≡ es → take (length old) new ≡ old
front_kept old es new kept more =
    ap (take (length old)) (sym (take-append-drop (length es) new) ∙ ap (λ xs. xs ++ drop (length es) new) more)
    ∙ take-append-le (length old) es (drop (length es) new) (omega (arith, ap length kept, length-take (length old) es)) ∙ kept

-- one more item behind a list keeps what stood at its front
pub front_pushed : (old es new : List Edit) (e : Edit) → take (length old) es ≡ old → new ≡ es ++ e ∷ [] → take (length old) new ≡ old
front_pushed old es new e kept is = front_kept old es new kept (ap (take (length es)) is ∙ take_at es (e ∷ []) (length es) refl)
