-- Proof and disproof numbers (Allis 1994, section 2.4), computed over the whole tree. Proven means that the attacker wins.
use Rattle.std.specs.Prelude.{◌≡◌, ◌≢◌, ◌≤◌, ◌⊎◌, ℕ, ◌+◌, min, sum, List, [], ◌∷◌, ◌==◌, Bool, true, false, ◌||◌, if◌then◌else◌}
use Rattle.tt_game.specs.declared.frame.Side.{Side}
use Rattle.tt_game.specs.declared.frame.Side.TheVariants.{Attacker, Defender}
use Rattle.tt_search.specs.PartialTree.{PartialTree, fresh, won, closed, expanded, Children, no_more, more}

-- the number of what can't be proved or disproved any more
abbrev pub infinite : ℕ
infinite = 4294967295

-- the greatest finite number
abbrev pub cap : ℕ
cap = 1000000000

abbrev pub is_same_side : Side → Side → Bool
is_same_side Attacker Attacker = true
is_same_side Defender Defender = true
is_same_side Attacker Defender = false
is_same_side Defender Attacker = false

-- the least of the numbers
abbrev pub least : List ℕ → ℕ
least [] = infinite
least (x ∷ xs) = min x (least xs)

abbrev pub has_infinite : List ℕ → Bool
has_infinite [] = false
has_infinite (x ∷ xs) = (x == infinite) || has_infinite xs

-- the sum of the numbers: infinite where one of them is, and otherwise at most the cap
abbrev pub capped_sum : List ℕ → ℕ
capped_sum xs = if has_infinite xs then infinite else min (sum xs) cap

-- what a leaf that is decided for the side gives to the number of the goal
abbrev pub decided_number : Side → Side → ℕ
decided_number goal side = if is_same_side goal side then 0 else infinite

-- what the numbers of the children give: the least where the goal is to move, and otherwise the sum
abbrev pub combined_number : Side → Side → List ℕ → ℕ
combined_number goal mover xs = if is_same_side goal mover then least xs else capped_sum xs

-- the number of a goal: the attacker's is the proof number, the defender's the disproof number
abbrev mutual
  pub number : Side → PartialTree → ℕ
  number goal fresh = 1
  number goal (won side) = decided_number goal side
  number goal (closed side strategy) = decided_number goal side
  number goal (expanded mover turns children) = combined_number goal mover (child_numbers goal children)

  pub child_numbers : Side → Children → List ℕ
  child_numbers goal no_more = []
  child_numbers goal (more tree children) = number goal tree ∷ child_numbers goal children

abbrev pub proof_number : PartialTree → ℕ
proof_number tree = number Attacker tree

abbrev pub disproof_number : PartialTree → ℕ
disproof_number tree = number Defender tree

-- a number is finite, and then at most the cap, or infinite
abbrev pub IsCappedOrInfinite : ℕ → Type 0
IsCappedOrInfinite n = (n ≤ cap) ⊎ (n ≡ infinite)

-- neither number is 0
abbrev pub IsUndecided : PartialTree → Type 0
IsUndecided tree = (proof_number tree ≢ 0) × (disproof_number tree ≢ 0)

-- how many nodes are expanded
abbrev mutual
  pub count : PartialTree → ℕ
  count fresh = 0
  count (won side) = 0
  count (closed side strategy) = 0
  count (expanded mover turns children) = expanded_in_children children + 1

  pub expanded_in_children : Children → ℕ
  expanded_in_children no_more = 0
  expanded_in_children (more tree children) = count tree + expanded_in_children children
