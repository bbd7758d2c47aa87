-- Where the first game tree of an input is refused.
use Rattle.std.specs.Prelude.{◌≡◌, ◌≢◌, ◌<◌, ◌≤◌, ℕ, Bool, true, false, List, Option, Some, None, Ok, Err, length}
use Rattle.std.specs.declared.result.Result.{Result}
use Rattle.tt_sgf.specs.declared.trees.TheConstants.{MAX_BYTES}
use Rattle.tt_sgf.specs.declared.nodes.Node.{Node}
use Rattle.tt_sgf.specs.Grammar.{GameTree, HasNoTree, FirstTreeEndsAt, main_line}
use Rattle.tt_game.specs.declared.faults.GameFault.{GameFault}
use Rattle.tt_game.specs.Faults.{code_of, fault_node, fault_point, fault_value}
use Rattle.tt_game.specs.Problems.{problem_of}
use Rattle.tt_game.specs.Records.{record_of}
use Rattle.tt_text.specs.declared.outcome.TreeOutcome.{TreeOutcome}
use Rattle.tt_text.specs.declared.outcome.TreeOutcome.TheVariants.{Refused}
use Rattle.tsumego_c.specs.declared.first_refusal.Refusal.{Refusal}
use Rattle.tsumego_c.specs.declared.first_refusal.TheConstants.{NO_NUMBER}
use Rattle.tsumego_c.specs.declared.statuses.TheConstants.{DONE, NO_MEMORY, REFUSED}
use Rattle.tsumego_c.specs.First.{IsFirstTreeOutcome}

-- a number, or what stands for none
abbrev pub number_or_none : Option ℕ → ℕ
number_or_none None = NO_NUMBER
number_or_none (Some n) = n

-- the index of the property at fault
abbrev pub property_of : Option (ℕ × ℕ) → Option ℕ
property_of None = None
property_of (Some v) = Some v.0

-- the index of the value at fault in its property
abbrev pub value_in_property : Option (ℕ × ℕ) → Option ℕ
value_in_property None = None
value_in_property (Some v) = Some v.1

-- a refusal of the input, which has no place
abbrev pub refusal_of_input : ℕ → Refusal
refusal_of_input n = record { number = n; node = NO_NUMBER; property = NO_NUMBER; value = NO_NUMBER; point = NO_NUMBER }

-- nothing is refused
abbrev pub no_refusal : Refusal
no_refusal = refusal_of_input 0

-- the refusal of a main line by a fault
abbrev pub refusal_by_fault : GameFault → Refusal
refusal_by_fault e = record {
  number = code_of e;
  node = number_or_none (fault_node e);
  property = number_or_none (property_of (fault_value e));
  value = number_or_none (value_in_property (fault_value e));
  point = number_or_none (fault_point e);
}

-- the refusal of what is taken or has a fault
abbrev pub refusal_of_result : {A : Type 0} → Result A GameFault → Refusal
refusal_of_result (Ok x) = no_refusal
refusal_of_result (Err e) = refusal_by_fault e

-- how a main line is refused, as a record or as a problem
abbrev pub main_line_refusal : Bool → List Node → Refusal
main_line_refusal true ns = refusal_of_result (record_of ns)
main_line_refusal false ns = refusal_of_result (problem_of ns)

-- How the first tree is refused: the input is too long; or it has no tree; or the tree is read. What follows the tree isn't looked at.
pub data IsFirstTreeRefusal (is_record : Bool) (input : List ℕ) : Refusal → Type 0 where
  too_long_input : MAX_BYTES < length input → IsFirstTreeRefusal is_record input (refusal_of_input 2)
  treeless_input : length input ≤ MAX_BYTES → HasNoTree input → IsFirstTreeRefusal is_record input (refusal_of_input 1)
  tree_of_input : (count : ℕ) (t : GameTree) → length input ≤ MAX_BYTES → FirstTreeEndsAt input count t
      → IsFirstTreeRefusal is_record input (main_line_refusal is_record (main_line t))

-- How a call ends that is to say so: a status, and what is said.
pub data IsExplained (is_record : Bool) (input : List ℕ) (r : Refusal) : ℕ → Type 0 where
  taken : IsFirstTreeRefusal is_record input r → r.number ≡ 0 → IsExplained is_record input r DONE
  refused : IsFirstTreeRefusal is_record input r → r.number ≢ 0 → IsExplained is_record input r REFUSED
  -- memory was refused
  unknown : r ≡ no_refusal → IsExplained is_record input r NO_MEMORY

-- the number of the refusal that an outcome is, or 0
abbrev pub refused_number : TreeOutcome → ℕ
refused_number (Refused n) = n
refused_number _ = 0

-- what is said of the first tree's refusal has the number that the line on this tree says, and 0 where the line says no refusal
abbrev pub ExplainsTheLine : Bool → (List Node → TreeOutcome → Type 0) → Type 0
ExplainsTheLine is_record allowed = (input : List ℕ) (o : TreeOutcome) (r : Refusal) → IsFirstTreeOutcome allowed input o → IsFirstTreeRefusal is_record input r
    → r.number ≡ refused_number o
