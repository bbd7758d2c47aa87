-- Numbers and points as property values: the readers against their definitions.
use Rattle.std.proofs.Common.{◌≡◌, ◌≢◌, ℕ, ◌+◌, ◌-◌, ◌*◌, ◌<◌, ◌≤◌, true, false, cond, eqb, List, [], ◌∷◌, ◌++◌, length, get_or, drop, Some, None, refl, sym, ap, subst, ◌∙◌, arith, inl, inr}
use Rattle.std.proofs.lemmas.Bool.{eqb-true, le-leb, cases_Bool, cases_lt, lt-leb}
use Rattle.std.proofs.lemmas.List.{append-nil, drop_more, drop_all}
use Rattle.tt_sgf.specs.Bytes.{digit_0, plus}
use Rattle.tt_sgf.specs.Grammar.{is_blank, is_digit, AreBlanks}
use Rattle.tt_sgf.specs.Values.{after_blanks, StandsAloneIn, AreDigits, value_of_digits, IsNumeral, IsUnsignedNumber, prepend_unless_last_blank}
use Rattle.tt_sgf.specs.Values.{without_end, trimmed, bounded_value_of_digits, value_of_some_digits, without_plus, numeral_of, number_of}
use Rattle.tt_sgf.proofs.TokenLemmas.{after_blanks-again, after_blanks-other, after_blanks-nil, blanks_take}

-- ---- white space at the end

pub without_end-cons : (b : ℕ) (bs : List ℕ) → without_end (b ∷ bs) ≡ prepend_unless_last_blank b (without_end bs)
unfolding without_end
without_end-cons b bs = refl

pub without_end-nil : without_end [] ≡ []
unfolding without_end
without_end-nil = refl

-- a byte before a text that has some stays, white space or not
prepend_unless_last_blank-push : (b : ℕ) (xs : List ℕ) (c : ℕ) → prepend_unless_last_blank b (xs ++ c ∷ []) ≡ b ∷ (xs ++ c ∷ [])
prepend_unless_last_blank-push b [] c = refl
prepend_unless_last_blank-push b (x ∷ xs) c = refl

-- white space at the end is taken off
pub without_end-blank : (xs : List ℕ) (b : ℕ) → is_blank b ≡ true → without_end (xs ++ b ∷ []) ≡ without_end xs
without_end-blank [] b e = without_end-cons b [] ∙ rw (without_end-nil) (rw e refl)
without_end-blank (x ∷ xs) b e = without_end-cons x (xs ++ b ∷ []) ∙ ap (prepend_unless_last_blank x) (without_end-blank xs b e) ∙ sym (without_end-cons x xs)

-- a text that ends in anything else stays
pub without_end-other : (xs : List ℕ) (b : ℕ) → is_blank b ≡ false → without_end (xs ++ b ∷ []) ≡ xs ++ b ∷ []
without_end-other [] b e = without_end-cons b [] ∙ rw (without_end-nil) (rw e refl)
without_end-other (x ∷ xs) b e = without_end-cons x (xs ++ b ∷ []) ∙ ap (prepend_unless_last_blank x) (without_end-other xs b e) ∙ prepend_unless_last_blank-push x xs b

-- what was taken off
pub end_takes : (bytes : List ℕ) → (w : List ℕ) × AreBlanks w × (bytes ≡ without_end bytes ++ w)
end_takes [] = ([], tt, rw without_end-nil refl)
end_takes (b ∷ bs) =
    let r = end_takes bs in
    rw (without_end-cons b bs) (elim (without_end bs) as (λ t. bs ≡ t ++ r.0 → (w : List ℕ) × AreBlanks w × (b ∷ bs ≡ prepend_unless_last_blank b t ++ w)) [
      | [] ↦ λ e. elim (is_blank b) as (λ c. is_blank b ≡ c → (w : List ℕ) × AreBlanks w × (b ∷ bs ≡ cond c [] (b ∷ []) ++ w)) [
        | true ↦ λ c. (b ∷ r.0, (c, r.1), ap (λ (x : List ℕ). b ∷ x) e)
        | false ↦ λ c. (r.0, r.1, ap (λ (x : List ℕ). b ∷ x) e)
      ] refl
      | c ∷ cs ↦ λ e. (r.0, r.1, ap (λ (x : List ℕ). b ∷ x) e)
    ] r.2)

-- the trimmed text stands in the bytes
pub trimmed_stands : (bytes : List ℕ) → StandsAloneIn (trimmed bytes) bytes
trimmed_stands bytes =
    let w = blanks_take bytes in
    let v = end_takes (after_blanks bytes) in
    record { before = w.0; behind = v.0; blank_before = w.1; blank_behind = v.1; parts = w.2 ∙ ap (λ (x : List ℕ). w.0 ++ x) v.2 }

-- no byte is white space
abbrev pub NoBlank : List ℕ → Type 0
NoBlank [] = Unit {0}
NoBlank (b ∷ bs) = (is_blank b ≡ false) × NoBlank bs

-- nothing is left of white space alone
end_blank : (w : List ℕ) → AreBlanks w → without_end w ≡ []
end_blank [] h = without_end-nil
end_blank (b ∷ bs) h = without_end-cons b bs ∙ rw (end_blank bs h.1) (rw (h.0) refl)

-- a text without white space is left when the white space behind it is taken off
end_again : (t w : List ℕ) → NoBlank t → AreBlanks w → without_end (t ++ w) ≡ t
end_again [] w n h = end_blank w h
end_again (b ∷ []) w n h = without_end-cons b w ∙ rw (end_blank w h) (rw (n.0) refl)
end_again (b ∷ c ∷ bs) w n h = without_end-cons b ((c ∷ bs) ++ w) ∙ ap (prepend_unless_last_blank b) (end_again (c ∷ bs) w n.1 h)

-- behind white space alone nothing is left
all_blank : (w : List ℕ) → AreBlanks w → after_blanks w ≡ []
all_blank w h = ap after_blanks (sym (append-nil w)) ∙ after_blanks-again w [] h ∙ after_blanks-nil

-- a text without white space that stands in the bytes is the trimmed one
pub trimmed_is : (t bytes : List ℕ) → NoBlank t → StandsAloneIn t bytes → trimmed bytes ≡ t
trimmed_is [] bytes n s =
    let e : after_blanks bytes ≡ after_blanks s.behind = ap after_blanks s.parts ∙ after_blanks-again s.before s.behind s.blank_before in
    ap without_end (e ∙ all_blank s.behind s.blank_behind) ∙ without_end-nil
trimmed_is (b ∷ bs) bytes n s =
    ap without_end (ap after_blanks s.parts ∙ after_blanks-again s.before ((b ∷ bs) ++ s.behind) s.blank_before ∙ after_blanks-other b (bs ++ s.behind) n.0)
    ∙ end_again (b ∷ bs) s.behind n s.blank_behind

-- ---- digits

-- a first byte: a digit that fits, one that makes the number too large, or no digit
pub bounded_value_of_digits-digit : (n b : ℕ) (bs : List ℕ) → is_digit b ≡ true → n * 10 + (b - digit_0) ≤ 65535
    → bounded_value_of_digits n (b ∷ bs) ≡ bounded_value_of_digits (n * 10 + (b - digit_0)) bs
unfolding bounded_value_of_digits
bounded_value_of_digits-digit n b bs e h = rw (e, le-leb (n * 10 + (b - digit_0)) 65535 h) refl

pub bounded_value_of_digits-large : (n b : ℕ) (bs : List ℕ) → is_digit b ≡ true → 65535 < n * 10 + (b - digit_0) → bounded_value_of_digits n (b ∷ bs) ≡ None
unfolding bounded_value_of_digits
bounded_value_of_digits-large n b bs e h = rw (e, lt-leb (n * 10 + (b - digit_0)) 65535 h) refl

pub bounded_value_of_digits-other : (n b : ℕ) (bs : List ℕ) → is_digit b ≡ false → bounded_value_of_digits n (b ∷ bs) ≡ None
unfolding bounded_value_of_digits
bounded_value_of_digits-other n b bs e = rw e refl

pub bounded_value_of_digits-nil : (n : ℕ) → bounded_value_of_digits n [] ≡ Some n
unfolding bounded_value_of_digits
bounded_value_of_digits-nil n = refl

-- digits behind a number never make it less
decimal_le : (n : ℕ) (bs : List ℕ) → n ≤ value_of_digits n bs
decimal_le n [] = omega arith
decimal_le n (b ∷ bs) = let i = decimal_le (n * 10 + (b - digit_0)) bs in omega arith

-- what is read as a number is digits of that worth, at most 65,535
pub digits_take : (n : ℕ) (bs : List ℕ) (m : ℕ) → n ≤ 65535 → bounded_value_of_digits n bs ≡ Some m → AreDigits bs × (m ≡ value_of_digits n bs) × (m ≤ 65535)
digits_take n [] m le h = let e : n ≡ m = (let k = bounded_value_of_digits-nil n in cc) in (tt, sym e, omega arith)
digits_take n (b ∷ bs) m le h =
    elim (cases_Bool (is_digit b)) [
      | inl d ↦ elim (cases_lt 65535 (n * 10 + (b - digit_0))) [
        | inl lt ↦ absurd (let k = bounded_value_of_digits-large n b bs d lt in cc)
        | inr ge ↦ let i = digits_take (n * 10 + (b - digit_0)) bs m ge (sym (bounded_value_of_digits-digit n b bs d ge) ∙ h) in ((d, i.0), i.1, i.2)
      ]
      | inr o ↦ absurd (let k = bounded_value_of_digits-other n b bs o in cc)
    ]

-- digits worth at most 65,535 are read as their worth
pub digits_again : (n : ℕ) (bs : List ℕ) → AreDigits bs → value_of_digits n bs ≤ 65535 → bounded_value_of_digits n bs ≡ Some (value_of_digits n bs)
digits_again n [] d le = bounded_value_of_digits-nil n
digits_again n (b ∷ bs) d le =
    bounded_value_of_digits-digit n b bs d.0 (let i = decimal_le (n * 10 + (b - digit_0)) bs in omega arith) ∙ digits_again (n * 10 + (b - digit_0)) bs d.1 le

digit_is_no_blank : (b : ℕ) → is_digit b ≡ true → is_blank b ≡ false
unfolding is_digit is_blank
digit_is_no_blank b e = grind arith

digit_is_no_plus : (b : ℕ) → is_digit b ≡ true → eqb b plus ≡ false
unfolding is_digit
digit_is_no_plus b e = grind arith

no_blank_43 : is_blank plus ≡ false
unfolding is_blank
no_blank_43 = refl

-- no digit is white space
digits_no_blank : (bs : List ℕ) → AreDigits bs → NoBlank bs
digits_no_blank [] d = tt
digits_no_blank (b ∷ bs) d = (digit_is_no_blank b d.0, digits_no_blank bs d.1)

-- one or more digits worth at most 65,535 are read as their worth
some_again : (bs : List ℕ) → bs ≢ [] → AreDigits bs → value_of_digits 0 bs ≤ 65535 → value_of_some_digits bs ≡ Some (value_of_digits 0 bs)
some_again [] ne d le = absurd (ne refl)
some_again (b ∷ bs) ne d le = digits_again 0 (b ∷ bs) d le

-- digits have no `+` before them to leave out
plus_digits : (bs : List ℕ) → AreDigits bs → without_plus bs ≡ bs
plus_digits [] d = refl
plus_digits (b ∷ bs) d = rw (digit_is_no_plus b d.0) refl

-- the text of a number is read as that number
pub numeral_again : (t : List ℕ) (n : ℕ) → IsNumeral t n → numeral_of t ≡ Some n
numeral_again t n h =
    let value : value_of_some_digits h.digits ≡ Some n = some_again h.digits h.some h.are (omega (arith, h.value, h.fits)) ∙ ap (λ (x : ℕ). Some x) (sym h.value) in
    elim h.stands [
      | inl s ↦ ap numeral_of s ∙ ap value_of_some_digits (plus_digits h.digits h.are) ∙ value
      | inr s ↦ ap numeral_of s ∙ value
    ]

-- the text of a number has no white space
pub numeral_no_blank : (t : List ℕ) (n : ℕ) → IsNumeral t n → NoBlank t
numeral_no_blank t n h = elim h.stands [
  | inl s ↦ subst NoBlank (sym s) (digits_no_blank h.digits h.are)
  | inr s ↦ subst NoBlank (sym s) (no_blank_43, digits_no_blank h.digits h.are)
]

-- a value that is a number is read as that number
pub number_again : (bytes : List ℕ) (n : ℕ) → IsUnsignedNumber bytes n → number_of bytes ≡ Some n
unfolding number_of
number_again bytes n h = ap numeral_of (trimmed_is h.0 bytes (numeral_no_blank h.0 n h.1) h.2) ∙ numeral_again h.0 n h.1

-- what a number was read from
some_takes : (bs : List ℕ) (n : ℕ) → value_of_some_digits bs ≡ Some n → (bs ≢ []) × AreDigits bs × (n ≡ value_of_digits 0 bs) × (n ≤ 65535)
some_takes [] n h = absurd cc
some_takes (b ∷ bs) n h = let d = digits_take 0 (b ∷ bs) n (omega arith) h in ((λ e. absurd cc), d.0, d.1, d.2)

-- a text read as a number is the text of that number
pub numeral_takes : (t : List ℕ) (n : ℕ) → numeral_of t ≡ Some n → IsNumeral t n
numeral_takes [] n h = absurd cc
numeral_takes (b ∷ bs) n h =
    elim (eqb b plus) as (λ c. eqb b plus ≡ c → value_of_some_digits (cond c bs (b ∷ bs)) ≡ Some n → IsNumeral (b ∷ bs) n) [
      | true ↦ λ e k. let d = some_takes bs n k in record { digits = bs; some = d.0; are = d.1; value = d.2; fits = d.3; stands = inr (ap (λ (x : ℕ). x ∷ bs) (eqb-true b plus e)) }
      | false ↦ λ e k. let d = some_takes (b ∷ bs) n k in record { digits = b ∷ bs; some = d.0; are = d.1; value = d.2; fits = d.3; stands = inl refl }
    ] refl h

-- a value read as a number is that number
pub number_takes : (bytes : List ℕ) (n : ℕ) → number_of bytes ≡ Some n → IsUnsignedNumber bytes n
unfolding number_of
number_takes bytes n h = (trimmed bytes, numeral_takes (trimmed bytes) n h, trimmed_stands bytes)

-- ---- the loop over the digits

pub digit_from : (b : ℕ) → is_digit b ≡ true → digit_0 ≤ b
unfolding is_digit
digit_from b e = grind arith

-- a text that has a byte is read as digits from 0 on
pub some_is : (bytes : List ℕ) → eqb (length bytes) 0 ≡ false → value_of_some_digits bytes ≡ bounded_value_of_digits 0 bytes
some_is [] e = absurd cc
some_is (b ∷ bs) e = refl

module _ (bytes : List ℕ) (i n : ℕ) (lt : i < length bytes) (so_far : bounded_value_of_digits n (drop i bytes) ≡ bounded_value_of_digits 0 bytes) where
  -- one digit more that fits: the total stays
  pub digits_more : (m : ℕ) → is_digit (get_or bytes i 0) ≡ true → m ≡ n * 10 + (get_or bytes i 0 - digit_0) → m ≤ 65535
      → bounded_value_of_digits m (drop (i + 1) bytes) ≡ bounded_value_of_digits 0 bytes
  digits_more m e is le =
      ap (λ (x : ℕ). bounded_value_of_digits x (drop (i + 1) bytes)) is ∙ sym (bounded_value_of_digits-digit n (get_or bytes i 0) (drop (i + 1) bytes) e (omega arith))
      ∙ ap (bounded_value_of_digits n) (sym (drop_more bytes i 0 lt)) ∙ so_far

  -- a digit that makes the number too large: there is no total
  pub digits_past : is_digit (get_or bytes i 0) ≡ true → 65535 < n * 10 + (get_or bytes i 0 - digit_0) → bounded_value_of_digits 0 bytes ≡ None
  digits_past e gt = sym so_far ∙ ap (bounded_value_of_digits n) (drop_more bytes i 0 lt) ∙ bounded_value_of_digits-large n (get_or bytes i 0) (drop (i + 1) bytes) e gt

  -- a byte that is no digit: there is no total
  pub digits_stop : is_digit (get_or bytes i 0) ≡ false → bounded_value_of_digits 0 bytes ≡ None
  digits_stop e = sym so_far ∙ ap (bounded_value_of_digits n) (drop_more bytes i 0 lt) ∙ bounded_value_of_digits-other n (get_or bytes i 0) (drop (i + 1) bytes) e

-- at the end the total is the number so far
pub digits_end : (bytes : List ℕ) (i n : ℕ) → length bytes ≤ i → bounded_value_of_digits n (drop i bytes) ≡ bounded_value_of_digits 0 bytes → bounded_value_of_digits 0 bytes ≡ Some n
digits_end bytes i n le h = sym h ∙ ap (bounded_value_of_digits n) (drop_all i bytes le) ∙ bounded_value_of_digits-nil n
