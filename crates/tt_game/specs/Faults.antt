-- The numbers of refusals, where they were found, and what is at fault there.
use Rattle.std.specs.Prelude.{ℕ, suc, ◌+◌, ◌&&◌, ◌||◌, ◌==◌, not, cond, Bool, List, [], ◌∷◌, Option, Some, None, Ok, Err}
use Rattle.std.specs.List.{find, list_all, range_with_len}
use Rattle.std.specs.declared.result.Result.{Result}
use Rattle.std.specs.FinSet as set
use lib.Pointwise.{pointwise}
use Rattle.tt_sgf.specs.declared.size.Size.{Size}
use Rattle.tt_sgf.specs.declared.size.TheConstants.{MOST_POINTS}
use Rattle.tt_sgf.specs.declared.nodes.Node.{Node}
use Rattle.tt_sgf.specs.declared.nodes.Property.{Property}
use Rattle.tt_sgf.specs.PointLists.{is_entry}
use Rattle.tt_sgf.specs.Sizes.{point_count}
use Rattle.tt_board.specs.declared.Colour.{Colour}
use Rattle.tt_board.specs.Position.{Colouring}
use Rattle.tt_board.specs.Reach.{entry_at}
use Rattle.tt_board.specs.Decided.{reaches}
use Rattle.tt_board.specs.Play.{is_empty, is_stone_of}
use Rattle.tt_board.specs.Stones.{PointNumberSet}
use Rattle.tt_game.specs.Nodes.{PL, has_some_value, mover_of_values, set_named, values_of}
use Rattle.tt_game.specs.declared.faults.GameFault.{GameFault}
use Rattle.tt_game.specs.declared.faults.GameFault.TheVariants.{NotGo, BadSize, BadValue, PointTwice, MixedNode, StoneWithoutLiberty, OccupiedPoint, RepeatedBoard, AfterEnd}
use Rattle.tt_game.specs.declared.faults.GameFault.TheVariants.{TooManyTurns, NoTarget, EmptyTarget, MixedTargets, NoMemory}

-- each fault's number
abbrev pub code_of : GameFault → ℕ
code_of NotGo = 10
code_of BadSize = 11
code_of (BadValue k i j) = 12
code_of (PointTwice k p) = 13
code_of (MixedNode k) = 14
code_of (StoneWithoutLiberty k p) = 15
code_of (OccupiedPoint k p) = 16
code_of (RepeatedBoard k p) = 17
code_of (AfterEnd k p) = 18
code_of (TooManyTurns k) = 19
code_of NoTarget = 20
code_of (EmptyTarget k p) = 22
code_of (MixedTargets k p) = 23
code_of NoMemory = 40

-- the number of the refused node: GM and SZ are looked at in the first one, and that there is no target is known behind the last node
abbrev pub fault_node : GameFault → Option ℕ
fault_node NotGo = Some 1
fault_node BadSize = Some 1
fault_node (BadValue k i j) = Some k
fault_node (PointTwice k p) = Some k
fault_node (MixedNode k) = Some k
fault_node (StoneWithoutLiberty k p) = Some k
fault_node (OccupiedPoint k p) = Some k
fault_node (RepeatedBoard k p) = Some k
fault_node (AfterEnd k p) = Some k
fault_node (TooManyTurns k) = Some k
fault_node NoTarget = None
fault_node (EmptyTarget k p) = Some k
fault_node (MixedTargets k p) = Some k
fault_node NoMemory = None

-- the point at fault, where there is one
abbrev pub fault_point : GameFault → Option ℕ
fault_point (PointTwice k p) = Some p
fault_point (StoneWithoutLiberty k p) = Some p
fault_point (OccupiedPoint k p) = Some p
fault_point (RepeatedBoard k p) = Some p
fault_point (EmptyTarget k p) = Some p
fault_point (MixedTargets k p) = Some p
fault_point (AfterEnd k p) = p
fault_point NotGo = None
fault_point BadSize = None
fault_point (BadValue k i j) = None
fault_point (MixedNode k) = None
fault_point (TooManyTurns k) = None
fault_point NoTarget = None
fault_point NoMemory = None

-- the indices of the property in its node and of the value in that, where a value can't be read
abbrev pub fault_value : GameFault → Option (ℕ × ℕ)
fault_value (BadValue k i j) = Some (i, j)
fault_value NotGo = None
fault_value BadSize = None
fault_value (PointTwice k p) = None
fault_value (MixedNode k) = None
fault_value (StoneWithoutLiberty k p) = None
fault_value (OccupiedPoint k p) = None
fault_value (RepeatedBoard k p) = None
fault_value (AfterEnd k p) = None
fault_value (TooManyTurns k) = None
fault_value NoTarget = None
fault_value (EmptyTarget k p) = None
fault_value (MixedTargets k p) = None
fault_value NoMemory = None

-- ---- values that can't be read

-- what there is, or the fault that it is missing
abbrev pub or_fault : {A : Type 0} → Option A → GameFault → Result A GameFault
or_fault None e = Err e
or_fault (Some x) e = Ok x

-- the property has this name, and a value that is no entry of a list of points
abbrev pub has_bad_entry : Size → List ℕ → Property → Bool
has_bad_entry size name p = pointwise ◌==◌ p.ident name && not (list_all (is_entry size) p.values)

-- the property has this name, and a value
abbrev pub has_value_named : List ℕ → Property → Bool
has_value_named name p = pointwise ◌==◌ p.ident name && has_some_value p.values

-- the index of the first value that is no entry
unfoldable pub first_bad_entry : Size → List (List ℕ) → ℕ
first_bad_entry size [] = 0
first_bad_entry size (v ∷ vs) = cond (is_entry size v) (suc (first_bad_entry size vs)) 0

-- the fault of the first value of this name that is no entry, in node k, whose first i properties are left out
unfoldable pub bad_entry : ℕ → Size → List ℕ → ℕ → List Property → GameFault
bad_entry k size name i [] = BadValue k i 0
bad_entry k size name i (p ∷ ps) = cond (has_bad_entry size name p) (BadValue k i (first_bad_entry size p.values)) (bad_entry k size name (i + 1) ps)

-- the fault of the first value of this name
unfoldable pub bad_first_value : ℕ → List ℕ → ℕ → List Property → GameFault
bad_first_value k name i [] = BadValue k i 0
bad_first_value k name i (p ∷ ps) = cond (has_value_named name p) (BadValue k i 0) (bad_first_value k name (i + 1) ps)

-- the points that a property of node k names
abbrev pub read_set : ℕ → Size → List ℕ → Node → Result PointNumberSet GameFault
read_set k size name n = or_fault (set_named size name n) (bad_entry k size name 0 n.props)

-- the colour that PL of node k names
abbrev pub read_mover : ℕ → Node → Result Colour GameFault
read_mover k n = or_fault (mover_of_values (values_of PL n.props)) (bad_first_value k PL 0 n.props)

-- ---- points at fault

-- the least number below a bound that passes a test
unfoldable pub least_below : ℕ → (ℕ → Bool) → Option ℕ
least_below n test = find test (range_with_len 0 n)

abbrev pub least_point : PointNumberSet → Option ℕ
least_point s = least_below MOST_POINTS (λ p. set.contains s p)

-- no stone stands there, or one of the colour
abbrev pub has_entry : Option Colour → Option Colour → Bool
has_entry None entry = is_empty entry
has_entry (Some k) entry = is_stone_of entry k

-- the least point of a set that is empty, or that has a stone of the colour
abbrev pub least_with_entry : PointNumberSet → Colouring → Option Colour → Option ℕ
least_with_entry s c e = least_below MOST_POINTS (λ p. set.contains s p && has_entry e (entry_at c p))

-- the least stone that doesn't reach empty
abbrev pub least_without_liberty : Size → Colouring → Option ℕ
least_without_liberty size c = least_below (point_count size) (λ p. not (is_empty (entry_at c p) || reaches size c p None))
