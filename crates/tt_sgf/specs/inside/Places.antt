-- Where a byte stands in a game tree, as the code goes from byte to byte. Only private contracts cite it.
use Rattle.std.specs.Prelude.{ℕ, zero, suc, Bool, true, false, cond, not, ◌&&◌, ◌||◌, ◌==◌, List, [], ◌∷◌}
use Rattle.tt_sgf.specs.Bytes.{backslash, close_tree, close_value, open_tree, open_value, semicolon}
use Rattle.tt_sgf.specs.declared.stops.Place.{Place}
use Rattle.tt_sgf.specs.declared.stops.Place.TheVariants.{Outside, Opened, Node, Name, Named, Value, Trees, Done, Stuck}
use Rattle.tt_sgf.specs.Grammar.{is_blank, is_letter_or_digit, is_upper}

-- behind the bracket that closes a tree within so many
abbrev pub closed : ℕ → Place
closed zero = Done
closed (suc d) = Trees d

-- behind a bracket of a tree
abbrev pub at_bracket : ℕ → ℕ → Place
at_bracket d b = cond (b == open_tree) (Opened (suc d)) (cond (b == close_tree) (closed d) Stuck)

-- behind the first byte of what may follow in a node, and whether a value may
abbrev pub in_node : ℕ → Bool → ℕ → Place
in_node d v b = cond (is_letter_or_digit b) (Name d (is_upper b)) (cond (b == semicolon) (Node d false) (cond (v && (b == open_value)) (Value d false) (at_bracket d b)))

-- behind a byte between an identifier and its first value
abbrev pub at_value : ℕ → ℕ → Place
at_value d b = cond (is_blank b) (Named d) (cond (b == open_value) (Value d false) Stuck)

-- behind one byte more
abbrev pub step : Place → ℕ → Place
step Outside b = cond (b == open_tree) (Opened 0) Outside
step (Opened d) b = cond (is_blank b) (Opened d) (cond (b == semicolon) (Node d false) Stuck)
step (Node d v) b = cond (is_blank b) (Node d v) (in_node d v b)
step (Name d u) b = cond (is_letter_or_digit b) (Name d (u || is_upper b)) (cond u (at_value d b) Stuck)
step (Named d) b = at_value d b
step (Value d e) b = cond (not e && (b == close_value)) (Node d true) (Value d (not e && (b == backslash)))
step (Trees d) b = cond (is_blank b) (Trees d) (at_bracket d b)
step Done b = Done
step Stuck b = Stuck

-- behind all these bytes
abbrev pub run : Place → List ℕ → Place
run p [] = p
run p (b ∷ bs) = run (step p b) bs

-- how many trees are open around the innermost one
abbrev pub enclosing : Place → ℕ
enclosing Outside = 0
enclosing (Opened d) = d
enclosing (Node d v) = d
enclosing (Name d u) = d
enclosing (Named d) = d
enclosing (Value d e) = d
enclosing (Trees d) = d
enclosing Done = 0
enclosing Stuck = 0
