-- Lemmas on the lines of a text, and on the digits with which some begin.
use Rattle.std.proofs.Common.{◌≡◌, ◌∙◌, ◌≤◌, ◌<◌, ◌^◌, ◌+◌, ◌/◌, ◌%◌, ◌==◌, nat_lt, ℕ, zero, suc, Bool, false, inl, inr, if◌then◌else◌}
use Rattle.std.proofs.Common.{List, [], ◌∷◌, ◌++◌, decimal, refl, sym, ap, subst, append_assoc, append-nil, arith, rules}
use Rattle.std.proofs.lemmas.Bool.{cases_Bool}
use Rattle.std.proofs.lemmas.Fmt.{decimal_is_IsNumeral}
use Rattle.std.proofs.lemmas.Str.Parse.{tells_digits}
use Rattle.std.specs.Fmt.{digit_glyph, digits, digits_onto}
use Rattle.std.specs.Str.Parse.{AllDigits, digits_value}
use Rattle.tt_sgf.specs.Bytes.{newline, space}
use Rattle.tt_text.specs.Headline.{IsNumberedLine, lines_after, lines_of}

-- ---- lists of lists

abbrev first_or : {A : Type 0} → A → List A → A
first_or d [] = d
first_or d (x ∷ xs) = x

abbrev behind_first : {A : Type 0} → List A → List A
behind_first [] = []
behind_first (x ∷ xs) = xs

pub heads : {A : Type 0} {x y : A} {xs ys : List A} → x ∷ xs ≡ y ∷ ys → x ≡ y
heads {x = x} e = ap (first_or x) e

pub tails : {A : Type 0} {x y : A} {xs ys : List A} → x ∷ xs ≡ y ∷ ys → xs ≡ ys
tails e = ap behind_first e

-- ---- lines

-- no newline stands there
abbrev pub HasNoNewline : List ℕ → Type 0
HasNoNewline [] = Unit {0}
HasNoNewline (b ∷ bs) = (b ≡ newline → ⊥) × HasNoNewline bs

pub no_newline_in_both : (xs ys : List ℕ) → HasNoNewline xs → HasNoNewline ys → HasNoNewline (xs ++ ys)
no_newline_in_both [] ys a b = b
no_newline_in_both (x ∷ xs) ys a b = (a.0, no_newline_in_both xs ys a.1 b)

-- a larger byte is none
pub above_newline : (n : ℕ) → 11 + n ≡ newline → ⊥
above_newline n e = omega (arith, e)

abbrev pub EachHasNoNewline : List (List ℕ) → Type 0
EachHasNoNewline [] = Unit {0}
EachHasNoNewline (l ∷ ls) = HasNoNewline l × EachHasNoNewline ls

pub none_in_both : (ls ms : List (List ℕ)) → EachHasNoNewline ls → EachHasNoNewline ms → EachHasNoNewline (ls ++ ms)
none_in_both [] ms a b = b
none_in_both (l ∷ ls) ms a b = (a.0, none_in_both ls ms a.1 b)

-- the text of lines, each of which a newline ends
abbrev pub text_of_lines : List (List ℕ) → List ℕ
text_of_lines [] = []
text_of_lines (l ∷ ls) = l ++ (newline ∷ text_of_lines ls)

pub text_of_both : (ls ms : List (List ℕ)) → text_of_lines (ls ++ ms) ≡ text_of_lines ls ++ text_of_lines ms
text_of_both [] ms = refl
text_of_both (l ∷ ls) ms = ap (λ (x : List ℕ). l ++ (newline ∷ x)) (text_of_both ls ms) ∙ sym (append_assoc l (newline ∷ text_of_lines ls) (text_of_lines ms))

-- a byte that is no newline goes into the line
into_line : (line bs : List ℕ) (b : ℕ) → (b ≡ newline → ⊥) → lines_after line (b ∷ bs) ≡ lines_after (line ++ b ∷ []) bs
into_line line bs b other = ap (λ (x : Bool). if x then line ∷ lines_after [] bs else lines_after (line ++ b ∷ []) bs) off
  where
    off : (b == newline) ≡ false
    off = elim (cases_Bool (b == newline)) [ inl on ↦ absurd (other (search (rules, on))) | inr e ↦ e ]

-- a newline ends it
line_ends : (line xs rest : List ℕ) → HasNoNewline xs → lines_after line (xs ++ (newline ∷ rest)) ≡ (line ++ xs) ∷ lines_after [] rest
line_ends line [] rest n = ap (λ (l : List ℕ). l ∷ lines_after [] rest) (sym (append-nil line))
line_ends line (b ∷ xs) rest n =
    into_line line (xs ++ (newline ∷ rest)) b n.0 ∙ line_ends (line ++ b ∷ []) xs rest n.1
    ∙ ap (λ (l : List ℕ). l ∷ lines_after [] rest) (append_assoc line (b ∷ []) xs)

-- the lines of a text of lines are these
pub lines_again : (ls : List (List ℕ)) → EachHasNoNewline ls → lines_of (text_of_lines ls) ≡ ls
lines_again [] n = refl
lines_again (l ∷ ls) n = line_ends [] l (text_of_lines ls) n.0 ∙ ap (λ (ms : List (List ℕ)). l ∷ ms) (lines_again ls n.1)

-- the lines of a beginning are the first lines
pub lines_of_beginning : (line xs ys : List ℕ) → (more : List (List ℕ)) × (lines_after line (xs ++ ys) ≡ lines_after line xs ++ more)
lines_of_beginning line [] ys = (lines_after line ys, refl)
lines_of_beginning line (b ∷ xs) ys = elim (cases_Bool (b == newline)) [
  | inl on ↦ let r = lines_of_beginning [] xs ys in (
    r.0,
    ap (λ (x : Bool). if x then line ∷ lines_after [] (xs ++ ys) else lines_after (line ++ b ∷ []) (xs ++ ys)) on
        ∙ ap (λ (ls : List (List ℕ)). line ∷ ls) r.1
        ∙ sym (ap (λ (x : Bool). (if x then line ∷ lines_after [] xs else lines_after (line ++ b ∷ []) xs) ++ r.0) on),
  )
  | inr off ↦ let r = lines_of_beginning (line ++ b ∷ []) xs ys in (
    r.0,
    ap (λ (x : Bool). if x then line ∷ lines_after [] (xs ++ ys) else lines_after (line ++ b ∷ []) (xs ++ ys)) off
        ∙ r.1
        ∙ sym (ap (λ (x : Bool). (if x then line ∷ lines_after [] xs else lines_after (line ++ b ∷ []) xs) ++ r.0) off),
  )
]

-- ---- digits

abbrev IsDigit : ℕ → Type 0
IsDigit b = (48 ≤ b) × (b ≤ 57)

abbrev pub HasNoDigitInFront : List ℕ → Type 0
HasNoDigitInFront [] = Unit {0}
HasNoDigitInFront (b ∷ bs) = IsDigit b → ⊥

abbrev pub EachHasNoDigitInFront : List (List ℕ) → Type 0
EachHasNoDigitInFront [] = Unit {0}
EachHasNoDigitInFront (l ∷ ls) = HasNoDigitInFront l × EachHasNoDigitInFront ls

pub no_digit_in_both : (ls ms : List (List ℕ)) → EachHasNoDigitInFront ls → EachHasNoDigitInFront ms → EachHasNoDigitInFront (ls ++ ms)
no_digit_in_both [] ms a b = b
no_digit_in_both (l ∷ ls) ms a b = (a.0, no_digit_in_both ls ms a.1 b)

digit_there : (b : ℕ) (bs : List ℕ) → AllDigits 10 (b ∷ bs) → IsDigit b
digit_there b bs d = let k = tells_digits.parts b bs d in (k.0.0, k.0.1)

-- a decimal number has no newline
glyph_in_line : (d : ℕ) → digit_glyph false d ≡ newline → ⊥
glyph_in_line d e = elim (cases_Bool (nat_lt d 10)) [
  | inl on ↦ let is : digit_glyph false d ≡ 48 + d = ap (λ (x : Bool). if x then 48 + d else 87 + d) on in let bad = sym is ∙ e in omega (arith, bad)
  | inr off ↦ let is : digit_glyph false d ≡ 87 + d = ap (λ (x : Bool). if x then 48 + d else 87 + d) off in let bad = sym is ∙ e in omega (arith, bad)
]

digits_in_line : (k n : ℕ) (acc : List ℕ) → HasNoNewline acc → HasNoNewline (digits_onto k 10 false n acc)
digits_in_line zero n acc h = h
digits_in_line (suc k) n acc h =
    let more = digit_glyph false (n % 10) ∷ acc in
    let g : HasNoNewline more = (glyph_in_line (n % 10), h) in
    elim (cases_Bool (n / 10 == 0)) [
      | inl on ↦ subst HasNoNewline (sym (ap (λ (x : Bool). if x then more else digits_onto k 10 false (n / 10) more) on)) g
      | inr off ↦ subst HasNoNewline (sym (ap (λ (x : Bool). if x then more else digits_onto k 10 false (n / 10) more) off)) (digits_in_line k (n / 10) more g)
    ]

pub decimal_in_line : (n : ℕ) → HasNoNewline (decimal n)
unfolding digits
decimal_in_line n = digits_in_line 64 n [] tt

-- digits and a blank are told from what follows
digits_same : (ds es x y : List ℕ) → AllDigits 10 ds → AllDigits 10 es → ds ++ (space ∷ x) ≡ es ++ (space ∷ y) → (ds ≡ es) × (x ≡ y)
digits_same [] [] x y d e h = (refl, tails h)
digits_same [] (b ∷ es) x y d e h = let k = digit_there b es e in let s : space ≡ b = heads h in absurd (omega (arith, s, k.0))
digits_same (a ∷ ds) [] x y d e h = let k = digit_there a ds d in let s : a ≡ space = heads h in absurd (omega (arith, s, k.0))
digits_same (a ∷ ds) (b ∷ es) x y d e h =
    let r = digits_same ds es x y (tells_digits.parts a ds d).1 (tells_digits.parts b es e).1 (tails h) in
    (ap (λ (c : ℕ). c ∷ ds) (heads h) ∙ ap (λ (cs : List ℕ). b ∷ cs) r.0, r.1)

-- a line tells its number and its words
pub number_and_words : (j k : ℕ) (words others : List ℕ) → j < 2 ^ 64 → IsNumberedLine (decimal j ++ (space ∷ words)) k others → (k ≡ j) × (words ≡ others)
number_and_words j k words others low h =
    let n = decimal_is_IsNumeral j low in
    let r = digits_same (decimal j) h.0 words others n.0.1 h.1.1 h.3 in
    (h.2 ∙ sym (ap (digits_value 10) r.0) ∙ n.1, r.1)

-- it has that number
pub is_numbered : (k : ℕ) (words : List ℕ) → k < 2 ^ 64 → IsNumberedLine (decimal k ++ (space ∷ words)) k words
is_numbered k words low = let n = decimal_is_IsNumeral k low in (decimal k, n.0, sym n.1, refl)

-- a line with no digit in front has none
pub not_numbered : (line : List ℕ) (k : ℕ) (words : List ℕ) → HasNoDigitInFront line → IsNumberedLine line k words → ⊥
not_numbered line k words none ([], some, is, e) = let few = some.0 in absurd (omega (arith, few))
not_numbered line k words none (d ∷ ds, some, is, e) = let bad = subst HasNoDigitInFront e none in bad (digit_there d ds some.1)
