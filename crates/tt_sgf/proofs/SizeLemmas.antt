-- Sizes as property values: the reader against its definition.
use Rattle.std.proofs.Common.{◌≡◌, ℕ, ◌+◌, ◌<◌, ◌≤◌, Bool, true, false, ◌||◌, cond, eqb, arith, List, [], ◌∷◌, ◌++◌, length, get_or, take, drop, Option, Some, None, refl, sym, ap}
use Rattle.std.proofs.Common.{subst, ◌∙◌, inl, inr}
use Rattle.std.proofs.lemmas.Bool.{eqb-true}
use Rattle.std.proofs.lemmas.List.{drop_more, take-append-drop, take_all}
use Rattle.std.specs.List.{list_any}
use Rattle.tt_sgf.specs.Bytes.{colon}
use Rattle.tt_sgf.specs.declared.size.Size.{Size}
use Rattle.tt_sgf.specs.Grammar.{is_blank, is_digit}
use Rattle.tt_sgf.specs.laws.SizeLaws.{sized_returns_size, sized_has_dimensions}
use Rattle.tt_sgf.specs.Values.{AreDigits, IsNumeral, AreSideLengths, IsBoardSize, trimmed, numeral_of, before_colon, behind_colon, size_of_sides, size_around_colon, size_of}
use Rattle.tt_sgf.proofs.NumberLemmas.{NoBlank, trimmed_is, trimmed_stands, numeral_takes, numeral_again, numeral_no_blank}

-- ---- the first colon

-- some byte is a colon
abbrev pub has_colon : List ℕ → Bool
has_colon text = list_any (λ b. eqb b colon) text

-- nothing stands behind the colon of a text without one
pub colon_none : (text : List ℕ) → has_colon text ≡ false → behind_colon text ≡ None
unfolding behind_colon
colon_none [] h = refl
colon_none (b ∷ bs) h = elim (eqb b colon) as (λ c. (c || has_colon bs) ≡ false → cond c (Some bs) (behind_colon bs) ≡ None) [
  | true ↦ λ e. absurd cc
  | false ↦ λ e. colon_none bs e
] h

-- behind a text without a colon the next one is the first: what stands behind it
pub colon_behind : (c r : List ℕ) → has_colon c ≡ false → behind_colon (c ++ (colon ∷ r)) ≡ Some r
unfolding behind_colon
colon_behind [] r h = refl
colon_behind (b ∷ bs) r h = elim (eqb b colon) as (λ c. (c || has_colon bs) ≡ false → cond c (Some (bs ++ (colon ∷ r))) (behind_colon (bs ++ (colon ∷ r))) ≡ Some r) [
  | true ↦ λ e. absurd cc
  | false ↦ λ e. colon_behind bs r e
] h

-- and what stands before it
pub colon_before : (c r : List ℕ) → has_colon c ≡ false → before_colon (c ++ (colon ∷ r)) ≡ c
unfolding before_colon
colon_before [] r h = refl
colon_before (b ∷ bs) r h = elim (eqb b colon) as (λ c. (c || has_colon bs) ≡ false → cond c [] (b ∷ before_colon (bs ++ (colon ∷ r))) ≡ b ∷ bs) [
  | true ↦ λ e. absurd cc
  | false ↦ λ e. ap (λ (x : List ℕ). b ∷ x) (colon_before bs r e)
] h

-- a text is what stands before its first colon, the colon, and what stands behind it
colon_parts : (text r : List ℕ) → behind_colon text ≡ Some r → text ≡ before_colon text ++ (colon ∷ r)
unfolding before_colon behind_colon
colon_parts [] r h = absurd cc
colon_parts (b ∷ bs) r h = elim (eqb b colon) as (λ c. eqb b colon ≡ c → cond c (Some bs) (behind_colon bs) ≡ Some r → b ∷ bs ≡ cond c [] (b ∷ before_colon bs) ++ (colon ∷ r)) [
  | true ↦ λ e k. let is = eqb-true b colon e in let same : bs ≡ r = cc in ap (λ (x : ℕ). x ∷ bs) is ∙ ap (λ (x : List ℕ). colon ∷ x) same
  | false ↦ λ e k. ap (λ (x : List ℕ). b ∷ x) (colon_parts bs r k)
] refl h

-- the loop that looks for it
module _ (text : List ℕ) (i : ℕ) (lt : i < length text) (none : has_colon (take i text) ≡ false) (there : get_or text i 0 ≡ colon) where
  -- the text is what stands before the colon found, the colon, and what stands behind it
  text-is : text ≡ take i text ++ (colon ∷ drop (i + 1) text)
  text-is = sym (take-append-drop i text) ∙ ap (λ (x : List ℕ). take i text ++ x) (drop_more text i 0 lt ∙ ap (λ (b : ℕ). b ∷ drop (i + 1) text) there)

  -- the colon found is the first one
  pub found_before : take i text ≡ before_colon text
  found_before = sym (ap before_colon text-is ∙ colon_before (take i text) (drop (i + 1) text) none)

  pub found_behind : behind_colon text ≡ Some (drop (i + 1) text)
  found_behind = ap behind_colon text-is ∙ colon_behind (take i text) (drop (i + 1) text) none

-- no colon up to the end is no colon at all
pub found_none : (text : List ℕ) (i : ℕ) → length text ≤ i → has_colon (take i text) ≡ false → behind_colon text ≡ None
found_none text i le h = colon_none text (ap has_colon (sym (take_all i text le)) ∙ h)

-- ---- numbers have no colon and no white space

digit_is_no_colon : (b : ℕ) → is_digit b ≡ true → eqb b colon ≡ false
unfolding is_digit
digit_is_no_colon b e = grind arith

-- no digit is a colon
digits_no_colon : (bs : List ℕ) → AreDigits bs → has_colon bs ≡ false
digits_no_colon [] d = refl
digits_no_colon (b ∷ bs) d = rw (digit_is_no_colon b d.0) (digits_no_colon bs d.1)

-- nor has a number one, with or without its `+`
numeral_no_colon : (t : List ℕ) (n : ℕ) → IsNumeral t n → has_colon t ≡ false
numeral_no_colon t n h = elim h.stands [
  | inl s ↦ ap has_colon s ∙ digits_no_colon h.digits h.are
  | inr s ↦ ap has_colon s ∙ digits_no_colon h.digits h.are
]

no_blank_58 : is_blank colon ≡ false
unfolding is_blank
no_blank_58 = refl

-- texts without white space have none with a colon between them
NoBlank-append : (c r : List ℕ) → NoBlank c → NoBlank r → NoBlank (c ++ (colon ∷ r))
NoBlank-append [] r h k = (no_blank_58, k)
NoBlank-append (b ∷ bs) r h k = (h.0, NoBlank-append bs r h.1 k)

-- the sides of a board have no white space
sides_no_blank : (text : List ℕ) (size : Size) → AreSideLengths text size → NoBlank text
sides_no_blank text size h = elim h [
  | inl x ↦ numeral_no_blank text size.columns x.0
  | inr x ↦ subst NoBlank (sym x.4) (NoBlank-append x.0 x.1 (numeral_no_blank x.0 size.columns x.2) (numeral_no_blank x.1 size.rows x.3))
]

-- ---- the size

-- the columns and rows of a size make it
made_of : (c r : Option ℕ) (size : Size) → c ≡ Some size.columns → r ≡ Some size.rows → size_of_sides c r ≡ Some size
made_of c r size h k = rw (h, k) (sized_returns_size size)

-- the text of a size's sides is read as that size
sides_again : (text : List ℕ) (size : Size) → AreSideLengths text size → size_around_colon text (behind_colon text) ≡ Some size
sides_again text size h = elim h [
  | inl x ↦
      let one = numeral_again text size.columns x.0 in
      ap (size_around_colon text) (colon_none text (numeral_no_colon text size.columns x.0)) ∙ made_of _ _ size one (one ∙ ap (λ (n : ℕ). Some n) (sym x.1))
  | inr x ↦
      let no = numeral_no_colon x.0 size.columns x.2 in
      let behind = ap behind_colon x.4 ∙ colon_behind x.0 x.1 no in
      let before = ap before_colon x.4 ∙ colon_before x.0 x.1 no in
      ap (size_around_colon text) behind ∙ made_of _ _ size (ap numeral_of before ∙ numeral_again x.0 size.columns x.2) (numeral_again x.1 size.rows x.3)
]

-- a value that is a size is read as that size
pub size_again : (bytes : List ℕ) (size : Size) → IsBoardSize bytes size → size_of bytes ≡ Some size
unfolding size_of
size_again bytes size h =
    ap (λ (t : List ℕ). size_around_colon t (behind_colon t)) (trimmed_is h.0 bytes (sides_no_blank h.0 size h.1) h.2) ∙ sides_again h.0 size h.1

-- two numbers that make a size are its columns and rows
two_sides : (c r : Option ℕ) (size : Size) → size_of_sides c r ≡ Some size → (c ≡ Some size.columns) × (r ≡ Some size.rows)
two_sides None r size h = absurd cc
two_sides (Some c) None size h = absurd cc
two_sides (Some c) (Some r) size h = let s = sized_has_dimensions c r size h in (ap (λ (n : ℕ). Some n) (sym s.0), ap (λ (n : ℕ). Some n) (sym s.1))

-- a text read as a size is that of its sides
sides_take : (text : List ℕ) (size : Size) → size_around_colon text (behind_colon text) ≡ Some size → AreSideLengths text size
sides_take text size h = elim (behind_colon text) as (λ o. behind_colon text ≡ o → size_around_colon text o ≡ Some size → AreSideLengths text size) [
  | None ↦ λ e k.
      let s = two_sides (numeral_of text) (numeral_of text) size k in
      let same : size.rows ≡ size.columns = (let f = sym s.1 ∙ s.0 in cc) in
      inl (numeral_takes text size.columns s.0, same)
  | Some r ↦ λ e k.
      let s = two_sides (numeral_of (before_colon text)) (numeral_of r) size k in
      inr (before_colon text, r, numeral_takes (before_colon text) size.columns s.0, numeral_takes r size.rows s.1, colon_parts text r e)
] refl h

-- a value read as a size is that size
pub size_takes : (bytes : List ℕ) (size : Size) → size_of bytes ≡ Some size → IsBoardSize bytes size
unfolding size_of
size_takes bytes size h = (trimmed bytes, sides_take (trimmed bytes) size h, trimmed_stands bytes)
