-- Reading from left to right, as functions on lists. Only private contracts cite them.
use Rattle.std.specs.Prelude.{◌≡◌, ℕ, zero, suc, Bool, true, false, cond, ◌==◌, List, [], ◌∷◌, ◌++◌, length, Option, Some, None, Result, Ok, Err}
use Rattle.std.specs.List.{filter, list_any}
use Rattle.tt_sgf.specs.Bytes.{backslash, close_tree, close_value, open_tree, open_value, semicolon}
use Rattle.tt_sgf.specs.declared.faults.SgfFault.{SgfFault}
use Rattle.tt_sgf.specs.declared.faults.SgfFault.TheVariants as faults
use Rattle.tt_sgf.specs.declared.nodes.Property.{Property}
use Rattle.tt_sgf.specs.declared.trees.Event.{Event}
use Rattle.tt_sgf.specs.declared.trees.Event.TheVariants as events
use Rattle.tt_sgf.specs.Grammar.{is_letter_or_digit, is_upper, is_kept_in_name, GameTree, Spells}
use Rattle.tt_sgf.specs.Values.{after_blanks}

-- what follows, where something was read
infixl 10 ◌>>=◌
abbrev pub ◌>>=◌ : {A B : Type 0} → Option A → (A → Option B) → Option B
None >>= f = None
(Some x) >>= f = f x

-- a fault is what reading gives: nothing is read, unless memory ran out
abbrev pub Fails : {Y : Type 0} → SgfFault → Option Y → Type 0
Fails faults.Syntax read = read ≡ None
Fails faults.TooLong read = ⊥
Fails faults.NoMemory read = Unit {0}

-- what a function returned, seen by view, is what reading gives
abbrev pub Gives : {X Y : Type 0} → (X → Y) → Result X SgfFault → Option Y → Type 0
Gives view (Ok x) read = read ≡ Some (view x)
Gives view (Err e) read = Fails e read

-- an item before those that are read behind it
abbrev pub with_first : {X : Type 0} → X → List X × List ℕ → Option (List X × List ℕ)
with_first x p = Some (x ∷ p.0, p.1)

-- the bytes of a value, and what is left behind its bracket
unfoldable pub raw_at : Bool → List ℕ → Option (List ℕ × List ℕ)
raw_at escaped [] = None
raw_at true (b ∷ bs) = raw_at false bs >>= with_first b
raw_at false (b ∷ bs) = cond (b == close_value) (Some ([], bs)) (raw_at (b == backslash) bs >>= with_first b)

-- the letters and digits at the front
unfoldable pub word_of : List ℕ → List ℕ
word_of [] = []
word_of (b ∷ bs) = cond (is_letter_or_digit b) (b ∷ word_of bs) []

-- what is left behind them
unfoldable pub after_word : List ℕ → List ℕ
after_word [] = []
after_word (b ∷ bs) = cond (is_letter_or_digit b) (after_word bs) (b ∷ bs)

-- the first byte passes a test
abbrev pub begins : (ℕ → Bool) → List ℕ → Bool
begins test [] = false
begins test (b ∷ bs) = test b

-- what is left behind the first byte
abbrev pub behind : List ℕ → List ℕ
behind [] = []
behind (b ∷ bs) = bs

-- item after item, while there are more; the number bounds how many are tried
unfoldable pub repeat : {X : Type 0} → (List ℕ → Bool) → (List ℕ → Option (X × List ℕ)) → ℕ → List ℕ → Option (List X × List ℕ)
repeat more item zero bytes = None
repeat more item (suc n) bytes = cond (more bytes) (item bytes >>= λ x. repeat more item n x.1 >>= with_first x.0) (Some ([], bytes))

-- a `[` follows
abbrev pub opens_value : List ℕ → Bool
opens_value bytes = begins (λ b. b == open_value) (after_blanks bytes)

-- a value, behind white space and a `[`
abbrev pub value_at : List ℕ → Option (List ℕ × List ℕ)
value_at bytes = raw_at false (behind (after_blanks bytes))

-- the values at the front
unfoldable pub values_at : List ℕ → Option (List (List ℕ) × List ℕ)
values_at bytes = repeat opens_value value_at (suc (length bytes)) bytes

-- no item is in the list
abbrev pub has_none : {X : Type 0} → List X → Bool
has_none [] = true
has_none (x ∷ xs) = false

-- a property with no white space before it
unfoldable pub property_at : List ℕ → Option (Property × List ℕ)
property_at bytes = cond (list_any is_upper (word_of bytes)) (values_at (after_word bytes) >>= λ x.
    cond (has_none x.0) None (Some (record { ident = filter is_kept_in_name (word_of bytes); values = x.0 }, x.1))) None

-- a letter or a digit follows
abbrev pub property_follows : List ℕ → Bool
property_follows bytes = begins is_letter_or_digit (after_blanks bytes)

-- the properties at the front
unfoldable pub properties_at : List ℕ → Option (List Property × List ℕ)
properties_at bytes = repeat property_follows (λ bs. property_at (after_blanks bs)) (suc (length bytes)) bytes

-- the same, with no white space before it
abbrev pub event_of : List ℕ → Option (Event × List ℕ)
event_of [] = None
event_of (b ∷ bs) = cond (b == open_tree) (Some (events.Open, bs)) (cond (b == close_tree) (Some (events.Close, bs)) (cond (b == semicolon)
    (properties_at bs >>= λ x. Some (events.Item (record { props = x.0 }), x.1)) None))

-- the next bracket of a tree, or the next node
unfoldable pub event_at : List ℕ → Option (Event × List ℕ)
event_at bytes = event_of (after_blanks bytes)

-- ---- trees

-- the bytes begin with a text of the tree, and the rest follows it
pub record Begins (bytes : List ℕ) (t : GameTree) (rest : List ℕ) : Type 0 where
  pub text : List ℕ
  pub spells : Spells text t
  pub parts : bytes ≡ text ++ rest
