-- What the properties of a node say (SGF FF[4]).
use Rattle.std.specs.Prelude.{◌≡◌, ℕ, ◌+◌, ◌&&◌, ◌||◌, ◌==◌, not, cond, List, [], ◌∷◌, ◌++◌, codes, length, MatchResult, Option, Some, None, Bool, true, false}
use Rattle.std.specs.FinSet as set
use Rattle.std.specs.declared.result.Result.{Result}
use lib.Pointwise.{pointwise}
use Rattle.tt_sgf.specs.declared.size.Size.{Size}
use Rattle.tt_sgf.specs.declared.nodes.Node.{Node}
use Rattle.tt_sgf.specs.declared.nodes.Property.{Property}
use Rattle.tt_sgf.specs.Sizes.{sized}
use Rattle.tt_sgf.specs.Values.{after_blanks, number_of, size_of}
use Rattle.tt_sgf.specs.PointLists.{set_of}
use Rattle.tt_board.specs.declared.Colour.{Colour}
use Rattle.tt_board.specs.declared.Colour.TheVariants.{Black, White}
use Rattle.tt_board.specs.Stones.{PointNumberSet}

-- the values of all properties of this name, in order
unfoldable pub values_of : List ℕ → List Property → List (List ℕ)
values_of name [] = []
values_of name (p ∷ ps) = cond (pointwise ◌==◌ p.ident name) (p.values ++ values_of name ps) (values_of name ps)

-- ---- names of properties

abbrev pub AB : List ℕ
AB = codes "AB"

abbrev pub AW : List ℕ
AW = codes "AW"

abbrev pub AE : List ℕ
AE = codes "AE"

abbrev pub PL : List ℕ
PL = codes "PL"

abbrev pub B : List ℕ
B = codes "B"

abbrev pub W : List ℕ
W = codes "W"

abbrev pub GM : List ℕ
GM = codes "GM"

abbrev pub SZ : List ℕ
SZ = codes "SZ"

abbrev pub TR : List ℕ
TR = codes "TR"

abbrev pub SQ : List ℕ
SQ = codes "SQ"

-- ---- what the values say

-- whether there is a value
abbrev pub has_some_value : List (List ℕ) → Bool
has_some_value [] = false
has_some_value (v ∷ vs) = true

-- a property has a value in the node
abbrev pub has : List ℕ → Node → Bool
has name n = has_some_value (values_of name n.props)

-- the points that the property names, or none where an entry is bad
abbrev pub set_named : Size → List ℕ → Node → Option PointNumberSet
set_named size name n = set_of size (values_of name n.props)

-- a function returned the set that is named, or an error where an entry is bad
abbrev pub ReadsSet : {E : Type 0} → Result PointNumberSet E → Option PointNumberSet → Type 0
ReadsSet result named = MatchResult result (λ s. named ≡ Some s) (λ _. named ≡ None)

-- a colour by its first letter
abbrev pub colour_of_letter : List ℕ → Option Colour
colour_of_letter [] = None
colour_of_letter (b ∷ bs) = cond (b == 66 || b == 98) (Some Black) (cond (b == 87 || b == 119) (Some White) None)

-- the first value's colour, or Black where there is none
abbrev pub mover_of_values : List (List ℕ) → Option Colour
mover_of_values [] = Some Black
mover_of_values (v ∷ vs) = colour_of_letter (after_blanks v)

-- the points that two of the sets have
abbrev pub in_two_sets : PointNumberSet → PointNumberSet → PointNumberSet → PointNumberSet
in_two_sets a b c = set.union (set.intersection a b) (set.intersection (set.union a b) c)

-- how many moves the node has, of either colour
abbrev pub move_count : Node → ℕ
move_count n = length (values_of B n.props) + length (values_of W n.props)

-- a node with AB, AW or AE sets up, and one with PL and no move
abbrev pub is_setup : Node → Bool
is_setup n = has AB n || has AW n || has AE n || (has PL n && not (has B n || has W n))

-- whether there is a number, and it is 1
abbrev pub is_one : Option ℕ → Bool
is_one None = false
is_one (Some n) = n == 1

-- GM is not there, or its first value is 1
abbrev pub is_go : List (List ℕ) → Bool
is_go [] = true
is_go (v ∷ vs) = is_one (number_of v)

-- the size that the first value of SZ says, or 19 by 19 without SZ
abbrev pub size_or_default : List (List ℕ) → Option Size
size_or_default [] = sized 19 19
size_or_default (v ∷ vs) = size_of v
