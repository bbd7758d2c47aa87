-- Names in the text of a certificate are decimal numbers.
use Rattle.std.proofs.Common.{◌≡◌, ◌≤◌, ◌<◌, ◌^◌, ◌+◌, ◌-◌, ◌*◌, min, ℕ, zero, suc, arith, List, [], ◌∷◌, ◌++◌, ◌∙◌, refl, sym, ap, subst, append_assoc, length, get_or, decimal}
use Rattle.std.proofs.lemmas.Fmt.{decimal_is_IsNumeral, decimal_nonempty, first_decimal, decimal_digit, decimal-digits_value}
use Rattle.std.proofs.lemmas.Int.Digits.{digits_value_push}
use Rattle.std.proofs.lemmas.List.{length-append}
use Rattle.std.proofs.lemmas.Str.{digit_value_digit}
use Rattle.std.proofs.lemmas.Str.Parse.{tells_digits, numerals_by_value}
use Rattle.std.specs.Str.Parse.{AllDigits, digits_value}
use Rattle.tt_parts.specs.inside.OutlineReading.{HasNoDigitInFront, DigitsAt}
use Rattle.tt_proof.proofs.TextLemmas.{heads, tails}

-- ---- digits

abbrev pub IsDigit : ℕ → Type 0
IsDigit b = (48 ≤ b) × (b ≤ 57)

abbrev Digits : List ℕ → Type 0
Digits [] = Unit {0}
Digits (b ∷ bs) = IsDigit b × Digits bs

digits_in : (bs : List ℕ) → AllDigits 10 bs → Digits bs
digits_in [] d = tt
digits_in (b ∷ bs) d = let k = tells_digits.parts b bs d in ((k.0.0, k.0.1), digits_in bs k.1)

digits_apart : (ds es y z : List ℕ) → Digits ds → Digits es → HasNoDigitInFront y → HasNoDigitInFront z → ds ++ y ≡ es ++ z → (ds ≡ es) × (y ≡ z)
digits_apart [] [] y z d e ny nz h = (refl, h)
digits_apart [] (b ∷ es) y z d e ny nz h = let n = subst HasNoDigitInFront h ny in absurd (n e.0)
digits_apart (a ∷ ds) [] y z d e ny nz h = let n = subst HasNoDigitInFront (sym h) nz in absurd (n d.0)
digits_apart (a ∷ ds) (b ∷ es) y z d e ny nz h =
    let r = digits_apart ds es y z d.1 e.1 ny nz (tails h) in
    (ap (λ x. x ∷ ds) (heads h) ∙ ap (λ xs. b ∷ xs) r.0, r.1)

pub same_number : (k m : ℕ) (y z : List ℕ) → k < 2 ^ 64 → m < 2 ^ 64 → HasNoDigitInFront y → HasNoDigitInFront z → decimal k ++ y ≡ decimal m ++ z → (k ≡ m) × (y ≡ z)
same_number k m y z low low' ny nz h =
    let a = decimal_is_IsNumeral k low in
    let b = decimal_is_IsNumeral m low' in
    let r = digits_apart (decimal k) (decimal m) y z (digits_in (decimal k) a.0.1) (digits_in (decimal m) b.0.1) ny nz h in
    (sym a.1 ∙ ap (digits_value 10) r.0 ∙ b.1, r.1)

-- ---- reading

-- the digits up to now were read, and n is their number, or the greatest of 32 bits
pub record Counted (n : ℕ) (bytes now : List ℕ) : Type 0 where
  pub digits : List ℕ
  pub all : AllDigits 10 digits
  pub value : n ≡ min (digits_value 10 digits) (2 ^ 32 - 1)
  pub text : bytes ≡ digits ++ now

pub counted_none : (bytes : List ℕ) → Counted 0 bytes bytes
counted_none bytes = record { digits = []; all = tt; value = omega arith; text = refl }

digits_push : (ds : List ℕ) (b : ℕ) → AllDigits 10 ds → IsDigit b → AllDigits 10 (ds ++ b ∷ [])
digits_push [] b d k = (omega (arith, digit_value_digit b k, k.0, k.1), tt)
digits_push (c ∷ ds) b d k = (d.0, digits_push ds b d.1 k)

pub counted_more : (n m b : ℕ) (bytes now rest : List ℕ) → Counted n bytes now → now ≡ b ∷ rest → IsDigit b
    → m ≡ min (min (n * 10) (2 ^ 32 - 1) + (b - 48)) (2 ^ 32 - 1) → Counted m bytes rest
counted_more n m b bytes now rest w e k is = record {
  digits = w.digits ++ b ∷ [];
  all = digits_push w.digits b w.all k;
  value = omega (arith, is, w.value, digits_value_push 10 w.digits b, digit_value_digit b k);
  text = w.text ∙ ap (λ x. w.digits ++ x) e ∙ sym (append_assoc w.digits (b ∷ []) rest);
}

pub counted_end : (n : ℕ) (bytes now : List ℕ) → Counted n bytes now → HasNoDigitInFront now → DigitsAt n bytes now
counted_end n bytes now w e = record { digits = w.digits; all = w.all; value = w.value; text = w.text; ends = e }

module _ (n : ℕ) (bytes rest : List ℕ) (w : DigitsAt n bytes rest) where
  lengths : length bytes ≡ length w.digits + length rest
  lengths = ap length w.text ∙ length-append w.digits rest

  -- where a name stands, the digits are its text
  are_name : (k : ℕ) (y : List ℕ) → k < 1000000000 → HasNoDigitInFront y → bytes ≡ decimal k ++ y → w.digits ≡ decimal k
  are_name k y low none e =
      (digits_apart w.digits (decimal k) rest y (digits_in w.digits w.all)
      (digits_in (decimal k) (decimal_is_IsNumeral k (omega (arith, low))).0.1) w.ends none (sym w.text ∙ e)).0

  -- no name stands where no digit does, where the number is too great, or where more follows a first 0
  pub no_name_empty : length bytes - length rest ≡ 0 → (k : ℕ) (y : List ℕ) → k < 1000000000 → HasNoDigitInFront y → bytes ≡ decimal k ++ y → ⊥
  no_name_empty z k y low none e =
      omega (arith, z, lengths, ap length (are_name k y low none e), decimal_nonempty k (omega (arith, low)))

  pub no_name_great : 999999999 < n → (k : ℕ) (y : List ℕ) → k < 1000000000 → HasNoDigitInFront y → bytes ≡ decimal k ++ y → ⊥
  no_name_great great k y low none e =
      omega (arith, great, low, w.value, ap (digits_value 10) (are_name k y low none e), (decimal_is_IsNumeral k (omega (arith, low))).1)

  first_is : 0 < length w.digits → get_or bytes 0 0 ≡ get_or w.digits 0 0
  first_is some = first w.digits some w.text
    where
      first : (ds : List ℕ) → 0 < length ds → bytes ≡ ds ++ rest → get_or bytes 0 0 ≡ get_or ds 0 0
      first [] some e = absurd (omega (arith, some))
      first (d ∷ ds) some e = ap (λ x. get_or x 0 0) e

  pub no_name_zero : 1 < length bytes - length rest → get_or bytes 0 0 ≡ 48 → (k : ℕ) (y : List ℕ) → k < 1000000000 → HasNoDigitInFront y
      → bytes ≡ decimal k ++ y → ⊥
  no_name_zero long zero_first k y low none e = go k low (are_name k y low none e)
    where
      go : (k : ℕ) → k < 1000000000 → w.digits ≡ decimal k → ⊥
      go zero low h = omega (arith, long, lengths, ap length h, ap length (decimal_digit 0 (omega arith)))
      go (suc k) low h =
          let first = first_is (omega (arith, long, lengths)) in
          let head = ap (λ x. get_or x 0 0) h in
          let big = first_decimal (suc k) (omega arith) (omega (arith, low)) in
          omega (arith, first, head, big, zero_first)

  -- and otherwise it does
  pub name_stands : (0 < length bytes - length rest) → n ≤ 999999999 → (1 < length bytes - length rest → get_or bytes 0 0 ≡ 48 → ⊥) → bytes ≡ decimal n ++ rest
  name_stands some small first =
      let v : digits_value 10 w.digits ≡ n = omega (arith, w.value, small) in
      let long = lengths in
      let here : 0 < length w.digits = omega (arith, some, long) in
      let spelled = decimal-digits_value (numerals_by_value _ tells_digits) w.digits w.all here
      (λ z. one (first_is here ∙ z)) (omega (arith, v, small)) in
      w.text ∙ ap (λ x. x ++ rest) (sym spelled ∙ ap decimal v)
    where
      -- a first 0 stands alone
      one : get_or bytes 0 0 ≡ 48 → length w.digits ≡ 1
      one z = alone (length w.digits) (let l = lengths in omega (arith, l, some)) (λ long. first (let l = lengths in omega (arith, l, long)) z)
        where
          alone : (m : ℕ) → 0 < m → (1 < m → ⊥) → m ≡ 1
          alone m a b = omega (arith, a, b)
