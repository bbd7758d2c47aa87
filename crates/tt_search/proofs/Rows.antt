-- Numbers of the children.
use Rattle.std.proofs.Common.{◌≡◌, ℕ, ◌+◌, ◌<◌, ◌≤◌, min, sum, List, [], ◌∷◌, Bool, true, false, inl, inr, if◌then◌else◌, ltb, refl, arith}
use Rattle.std.proofs.lemmas.Grind.{common_steps}
use Rattle.tt_game.specs.declared.frame.Side.{Side}
use Rattle.tt_game.specs.declared.frame.Side.TheVariants.{Attacker, Defender}
use Rattle.tt_search.specs.PartialTree.{PartialTree, fresh, won, closed, expanded, Children, no_more, more}
use Rattle.tt_search.specs.Numbers.{infinite, cap, least, has_infinite, capped_sum, decided_number, combined_number, number, child_numbers, IsCappedOrInfinite}
use Rattle.tt_search.specs.MostProving.{first_least_index, index_of_best}

-- the least of numbers is at most infinite
pub least_le : (xs : List ℕ) → least xs ≤ infinite
least_le [] = omega arith
least_le (x ∷ xs) = omega (arith, least_le xs)

-- what the numbers still to be added make of a sum so far
abbrev pub sum_from : ℕ → List ℕ → ℕ
sum_from total xs = if has_infinite xs then infinite else min (total + sum xs) cap

-- the index of the least, where v is the least of those looked at, p its index and i the next index
abbrev pub best_from : ℕ → ℕ → ℕ → List ℕ → ℕ
best_from p v i xs = if ltb (least xs) v then i + first_least_index xs else p

-- a number below the least so far is the new least, and its index the new index
pub best_from_less : (p v i x : ℕ) (xs : List ℕ) → x < v → best_from i x (i + 1) xs ≡ best_from p v i (x ∷ xs)
best_from_less p v i x xs h = grind (arith, common_steps)

-- what is no more than any number behind stays the least, and its index the index
pub best_from_least : (p v i : ℕ) (xs : List ℕ) → v ≤ least xs → best_from p v i xs ≡ p
best_from_least p v i xs h = grind (arith, common_steps)

-- another number leaves the least so far and its index
pub best_from_same : (p v i x : ℕ) (xs : List ℕ) → v ≤ x → best_from p v (i + 1) xs ≡ best_from p v i (x ∷ xs)
best_from_same p v i x xs h = grind (arith, common_steps)

-- the number of a decided leaf is at most infinite
decided_number_le : (goal side : Side) → decided_number goal side ≤ infinite
decided_number_le Attacker Attacker = omega arith
decided_number_le Attacker Defender = omega arith
decided_number_le Defender Attacker = omega arith
decided_number_le Defender Defender = omega arith

-- so is a capped sum
capped_sum_le : (xs : List ℕ) → capped_sum xs ≤ infinite
capped_sum_le xs = grind (arith, common_steps)

-- so is what the numbers of the children give
combine_le : (goal mover : Side) (xs : List ℕ) → combined_number goal mover xs ≤ infinite
combine_le Attacker Attacker xs = least_le xs
combine_le Attacker Defender xs = capped_sum_le xs
combine_le Defender Attacker xs = capped_sum_le xs
combine_le Defender Defender xs = least_le xs

-- so is the number of any tree
pub number_le : (goal : Side) (tree : PartialTree) → number goal tree ≤ infinite
number_le goal fresh = omega arith
number_le goal (won side) = decided_number_le goal side
number_le goal (closed side tree) = decided_number_le goal side
number_le goal (expanded mover turns children) = combine_le goal mover (child_numbers goal children)

-- looked at from the first one on, numbers that begin with one at most infinite give the first least
best_from_infinite : (x : ℕ) (xs : List ℕ) → x ≤ infinite → best_from 0 infinite 0 (x ∷ xs) ≡ first_least_index (x ∷ xs)
best_from_infinite x xs h = grind (arith, common_steps, least_le xs)

-- looked at from the first one on, the children's numbers give the best child
pub best_from_start : (mover : Side) (children : Children) → best_from 0 infinite 0 (child_numbers mover children) ≡ index_of_best mover children
best_from_start mover no_more = refl
best_from_start mover (more tree children) = best_from_infinite (number mover tree) (child_numbers mover children) (number_le mover tree)

-- a decided leaf gives 0 or an infinite number
decided_capped : (goal side : Side) → IsCappedOrInfinite (decided_number goal side)
decided_capped Attacker Attacker = inl (omega arith)
decided_capped Attacker Defender = inr refl
decided_capped Defender Attacker = inr refl
decided_capped Defender Defender = inl (omega arith)

-- a sum is capped
chosen_capped : (some : Bool) (n : ℕ) → IsCappedOrInfinite (if some then infinite else min n cap)
chosen_capped true n = inr refl
chosen_capped false n = inl (omega arith)

-- so is the lesser of two capped numbers
lesser_capped : (x y : ℕ) → IsCappedOrInfinite x → IsCappedOrInfinite y → IsCappedOrInfinite (min x y)
lesser_capped x y (inl h) k = inl (omega (arith, h))
lesser_capped x y (inr h) (inl k) = inl (omega (arith, k))
lesser_capped x y (inr h) (inr k) = inr (omega (arith, h, k))

-- so is what the numbers of the children give
combined_capped : (goal mover : Side) (xs : List ℕ) → IsCappedOrInfinite (least xs) → IsCappedOrInfinite (combined_number goal mover xs)
combined_capped Attacker Attacker xs h = h
combined_capped Attacker Defender xs h = chosen_capped (has_infinite xs) (sum xs)
combined_capped Defender Attacker xs h = chosen_capped (has_infinite xs) (sum xs)
combined_capped Defender Defender xs h = h

mutual
  -- so is the number of any tree
  pub number_capped : (goal : Side) (tree : PartialTree) → IsCappedOrInfinite (number goal tree)
  number_capped goal fresh = inl (omega arith)
  number_capped goal (won side) = decided_capped goal side
  number_capped goal (closed side tree) = decided_capped goal side
  number_capped goal (expanded mover turns children) = combined_capped goal mover (child_numbers goal children) (least_capped goal children)

  -- and the least of any children's
  least_capped : (goal : Side) (children : Children) → IsCappedOrInfinite (least (child_numbers goal children))
  least_capped goal no_more = inr refl
  least_capped goal (more tree children) = lesser_capped (number goal tree) (least (child_numbers goal children)) (number_capped goal tree) (least_capped goal children)
