-- Property values of SGF FF[4] (https://www.red-bean.com/sgf/sgf4.html, "Property value types", and go.html, "Go
-- specific properties"): numbers, points and passes, sizes of boards. A number is at most 65,535, and a side at most 19.
use Rattle.std.specs.Prelude.{◌≡◌, ◌≢◌, ℕ, ◌+◌, ◌-◌, ◌*◌, ◌<◌, ◌≤◌, Bool, true, cond, ◌⊎◌, nat_le, nat_lt, ◌&&◌, ◌==◌, List, [], ◌∷◌, ◌++◌, Option, Some, None}
use Rattle.tt_sgf.specs.Bytes.{colon, digit_0, lower_a, lower_t, plus}
use Rattle.tt_sgf.specs.declared.size.Size.{Size}
use Rattle.tt_sgf.specs.declared.size.PointOrPass.{PointOrPass}
use Rattle.tt_sgf.specs.declared.size.PointOrPass.TheVariants.{On, Pass}
use Rattle.tt_sgf.specs.Grammar.{is_blank, is_digit, AreBlanks}
use Rattle.tt_sgf.specs.Sizes.{sized}

-- ---- what values mean

-- the text stands in the bytes, with nothing but white space at both ends
pub record StandsAloneIn (text bytes : List ℕ) : Type 0 where
  pub before : List ℕ
  pub behind : List ℕ
  pub blank_before : AreBlanks before
  pub blank_behind : AreBlanks behind
  pub parts : bytes ≡ before ++ (text ++ behind)

-- each byte is a digit
abbrev pub AreDigits : List ℕ → Type 0
AreDigits [] = Unit {0}
AreDigits (b ∷ bs) = (is_digit b ≡ true) × AreDigits bs

-- what digits are worth behind a number
abbrev pub value_of_digits : ℕ → List ℕ → ℕ
value_of_digits n [] = n
value_of_digits n (b ∷ bs) = value_of_digits (n * 10 + (b - digit_0)) bs

-- the text is an optional `+` and digits, which are worth n
pub record IsNumeral (text : List ℕ) (n : ℕ) : Type 0 where
  pub digits : List ℕ
  pub some : digits ≢ []
  pub are : AreDigits digits
  pub value : n ≡ value_of_digits 0 digits
  pub fits : n ≤ 65535
  pub stands : (text ≡ digits) ⊎ (text ≡ plus ∷ digits)

-- a number
abbrev pub IsUnsignedNumber : List ℕ → ℕ → Type 0
IsUnsignedNumber bytes n = (text : List ℕ) × IsNumeral text n × StandsAloneIn text bytes

-- one number for both sides, or columns and rows with a colon and no white space between them
abbrev pub AreSideLengths : List ℕ → Size → Type 0
AreSideLengths text size = (IsNumeral text size.columns × (size.rows ≡ size.columns))
    ⊎ ((columns : List ℕ) × (rows : List ℕ) × IsNumeral columns size.columns × IsNumeral rows size.rows × (text ≡ columns ++ (colon ∷ rows)))

-- the size of a board
abbrev pub IsBoardSize : List ℕ → Size → Type 0
IsBoardSize bytes size = (text : List ℕ) × AreSideLengths text size × StandsAloneIn text bytes

-- two letters, column then row, `a` being the first, both on the board
pub record IsPoint (size : Size) (bytes : List ℕ) (p : ℕ) : Type 0 where
  pub column : ℕ
  pub row : ℕ
  pub column_in : column < size.columns
  pub row_in : row < size.rows
  pub number : p ≡ row * size.columns + column
  pub stands : StandsAloneIn ((lower_a + column) ∷ (lower_a + row) ∷ []) bytes

-- nothing, or `tt`
abbrev pub IsPass : List ℕ → Type 0
IsPass bytes = StandsAloneIn [] bytes ⊎ StandsAloneIn (lower_t ∷ lower_t ∷ []) bytes

-- the value of a move
abbrev pub IsPointOrPass : Size → List ℕ → PointOrPass → Type 0
IsPointOrPass size bytes (On p) = IsPoint size bytes p
IsPointOrPass size bytes Pass = IsPass bytes

-- ---- the same as functions, for definitions that compute with values; the contracts of `number`, `board_size` and `point` say that
-- both agree

-- what is left behind the white space at the front
unfoldable pub after_blanks : List ℕ → List ℕ
after_blanks [] = []
after_blanks (b ∷ bs) = cond (is_blank b) (after_blanks bs) (b ∷ bs)

-- a byte before a text; white space before nothing is left out
abbrev pub prepend_unless_last_blank : ℕ → List ℕ → List ℕ
prepend_unless_last_blank b [] = cond (is_blank b) [] (b ∷ [])
prepend_unless_last_blank b (c ∷ cs) = b ∷ (c ∷ cs)

-- without the white space at the end
unfoldable pub without_end : List ℕ → List ℕ
without_end [] = []
without_end (b ∷ bs) = prepend_unless_last_blank b (without_end bs)

-- without the white space at both ends
abbrev pub trimmed : List ℕ → List ℕ
trimmed bytes = without_end (after_blanks bytes)

-- what digits are worth behind a number, where it is at most 65,535
unfoldable pub bounded_value_of_digits : ℕ → List ℕ → Option ℕ
bounded_value_of_digits n [] = Some n
bounded_value_of_digits n (b ∷ bs) = cond (is_digit b) (cond (nat_le (n * 10 + (b - digit_0)) 65535) (bounded_value_of_digits (n * 10 + (b - digit_0)) bs) None) None

-- what one or more digits are worth
abbrev pub value_of_some_digits : List ℕ → Option ℕ
value_of_some_digits [] = None
value_of_some_digits (b ∷ bs) = bounded_value_of_digits 0 (b ∷ bs)

-- without a `+` at the front
abbrev pub without_plus : List ℕ → List ℕ
without_plus [] = []
without_plus (b ∷ bs) = cond (b == plus) bs (b ∷ bs)

-- the number that a text is
abbrev pub numeral_of : List ℕ → Option ℕ
numeral_of text = value_of_some_digits (without_plus text)

-- the number that a value is
unfoldable pub number_of : List ℕ → Option ℕ
number_of bytes = numeral_of (trimmed bytes)

-- what stands before the first colon
unfoldable pub before_colon : List ℕ → List ℕ
before_colon [] = []
before_colon (b ∷ bs) = cond (b == colon) [] (b ∷ before_colon bs)

-- what stands behind the first colon, where there is one
unfoldable pub behind_colon : List ℕ → Option (List ℕ)
behind_colon [] = None
behind_colon (b ∷ bs) = cond (b == colon) (Some bs) (behind_colon bs)

-- the size of two numbers, where both are there
abbrev pub size_of_sides : Option ℕ → Option ℕ → Option Size
size_of_sides None r = None
size_of_sides (Some c) None = None
size_of_sides (Some c) (Some r) = sized c r

-- the sides that a text names, given what stands behind its first colon
abbrev pub size_around_colon : List ℕ → Option (List ℕ) → Option Size
size_around_colon text None = size_of_sides (numeral_of text) (numeral_of text)
size_around_colon text (Some rows) = size_of_sides (numeral_of (before_colon text)) (numeral_of rows)

-- the size that a value is
unfoldable pub size_of : List ℕ → Option Size
size_of bytes = size_around_colon (trimmed bytes) (behind_colon (trimmed bytes))

-- the two letters name a point of the board
abbrev pub are_letters_on_board : Size → ℕ → ℕ → Bool
are_letters_on_board size c r = (nat_le lower_a c && nat_lt (c - lower_a) size.columns) && (nat_le lower_a r && nat_lt (r - lower_a) size.rows)

-- the point of two letters, where the board has it
abbrev pub lettered_point : Size → ℕ → ℕ → Option PointOrPass
lettered_point size column row = cond (are_letters_on_board size column row) (Some (On ((row - lower_a) * size.columns + (column - lower_a)))) None

-- the point or the pass that a text is
unfoldable pub point_of : Size → List ℕ → Option PointOrPass
point_of size [] = Some Pass
point_of size (c ∷ []) = None
point_of size (c ∷ r ∷ []) = cond (c == lower_t && r == lower_t) (Some Pass) (lettered_point size c r)
point_of size (c ∷ r ∷ x ∷ xs) = None
