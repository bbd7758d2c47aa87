-- The best child of an undecided node is there, and it is undecided.
use Rattle.std.proofs.Common.{◌≡◌, ◌≢◌, ℕ, ◌<◌, ◌≤◌, List, [], ◌∷◌, ◌==◌, Bool, true, false, length, get_or, add-one, refl, sym, ◌∙◌, arith}
use Rattle.std.proofs.lemmas.Grind.{common_steps}
use Rattle.tt_game.specs.declared.frame.Side.{Side}
use Rattle.tt_game.specs.declared.frame.Side.TheVariants.{Attacker, Defender}
use Rattle.tt_game.specs.declared.turns.Turn.{Turn}
use Rattle.tt_game.specs.Game.{opponent}
use Rattle.tt_search.specs.PartialTree.{PartialTree, fresh, won, closed, expanded, Children, no_more, more}
use Rattle.tt_search.specs.Numbers.{infinite, least, capped_sum, decided_number, number, child_numbers, IsUndecided}
use Rattle.tt_search.specs.MostProving.{first_index_of, index_of_best}
use Rattle.tt_search.specs.inside.Children.{children_of}
use Rattle.tt_search.proofs.Rows.{least_le, number_le}

-- one number is 0 exactly where the other one is infinite
pub record AreDual (x y : ℕ) : Type 0 where
  pub zero_infinite : x ≡ 0 → y ≡ infinite
  pub infinite_zero : x ≡ infinite → y ≡ 0
  pub from_infinite : y ≡ infinite → x ≡ 0
  pub from_zero : y ≡ 0 → x ≡ infinite

-- dual numbers may change places
turned : {x y : ℕ} → AreDual x y → AreDual y x
turned h = record { zero_infinite = h.from_zero; infinite_zero = h.from_infinite; from_infinite = h.infinite_zero; from_zero = h.zero_infinite }

-- a pair of dual numbers more leaves the least of the ones dual to the capped sum of the others
dual_more : (x y : ℕ) (xs ys : List ℕ) → x ≤ infinite → AreDual x y → AreDual (least xs) (capped_sum ys) → AreDual (least (x ∷ xs)) (capped_sum (y ∷ ys))
dual_more x y xs ys l h k = record {
  zero_infinite = λ e. grind (arith, common_steps, least_le xs, h.zero_infinite, k.zero_infinite);
  infinite_zero = λ e. grind (arith, common_steps, least_le xs, h.infinite_zero, k.infinite_zero);
  from_infinite = λ e. grind (arith, common_steps, least_le xs, h.from_infinite, k.from_infinite);
  from_zero = λ e. grind (arith, common_steps, least_le xs, h.from_zero, k.from_zero);
}

-- a decided leaf gives dual numbers to a side and its opponent
dual_settled : (goal side : Side) → AreDual (decided_number goal side) (decided_number (opponent goal) side)
dual_settled Attacker Attacker = record { zero_infinite = λ e. refl; infinite_zero = λ e. omega arith; from_infinite = λ e. refl; from_zero = λ e. omega arith }
dual_settled Attacker Defender = record { zero_infinite = λ e. omega arith; infinite_zero = λ e. refl; from_infinite = λ e. omega arith; from_zero = λ e. refl }
dual_settled Defender Attacker = record { zero_infinite = λ e. omega arith; infinite_zero = λ e. refl; from_infinite = λ e. omega arith; from_zero = λ e. refl }
dual_settled Defender Defender = record { zero_infinite = λ e. refl; infinite_zero = λ e. omega arith; from_infinite = λ e. refl; from_zero = λ e. omega arith }

mutual
  -- one side's number is 0 exactly where the other side's is infinite
  pub dual : (goal : Side) (tree : PartialTree) → AreDual (number goal tree) (number (opponent goal) tree)
  dual goal fresh = record { zero_infinite = λ e. omega arith; infinite_zero = λ e. omega arith; from_infinite = λ e. omega arith; from_zero = λ e. omega arith }
  dual goal (won side) = dual_settled goal side
  dual goal (closed side tree) = dual_settled goal side
  dual Attacker (expanded Attacker turns children) = dual_row Attacker children
  dual Attacker (expanded Defender turns children) = turned (dual_row Defender children)
  dual Defender (expanded Attacker turns children) = turned (dual_row Attacker children)
  dual Defender (expanded Defender turns children) = dual_row Defender children

  -- so are the least of one side's numbers of the children and the capped sum of the other side's
  dual_row : (goal : Side) (children : Children) → AreDual (least (child_numbers goal children)) (capped_sum (child_numbers (opponent goal) children))
  dual_row goal no_more = record { zero_infinite = λ e. omega arith; infinite_zero = λ e. refl; from_infinite = λ e. omega arith; from_zero = λ e. refl }
  dual_row goal (more tree children) = dual_more (number goal tree) (number (opponent goal) tree) (child_numbers goal children) (child_numbers (opponent goal) children) (number_le goal tree)
      (dual goal tree) (dual_row goal children)

-- a least number that is not the first one is the least of the others
index_least : (v x : ℕ) (xs : List ℕ) → v ≡ least (x ∷ xs) → (x == v) ≡ false → v ≡ least xs
index_least v x xs e h = grind (arith, common_steps)

-- the index of the number is there, and the child there has the number
abbrev pub IsChildAt : Side → ℕ → List PartialTree → PartialTree → Type 0
IsChildAt goal v trees d = (first_index_of v (child_numbers goal (children_of trees)) < length trees) × (number goal (get_or trees (first_index_of v (child_numbers goal (children_of trees))) d) ≡ v)

-- the first child with the least number is the first of all, or else it is found among the others
child_here : (goal : Side) (v : ℕ) (tree : PartialTree) (trees : List PartialTree) (d : PartialTree) → v ≡ least (child_numbers goal (children_of (tree ∷ trees)))
    → (v ≡ least (child_numbers goal (children_of trees)) → IsChildAt goal v trees d) → (b : Bool) → (number goal tree == v) ≡ b → IsChildAt goal v (tree ∷ trees) d
child_here goal v tree trees d e below true q = rw q (omega arith, grind (arith, common_steps))
child_here goal v tree trees d e below false q =
    let k = below (index_least v (number goal tree) (child_numbers goal (children_of trees)) e q) in
    rw (q, add-one) (omega (arith, k.0), k.1)

-- where the least number isn't infinite, the child at its index has it
pub child_at : (goal : Side) (v : ℕ) (trees : List PartialTree) (d : PartialTree) → v ≢ infinite → v ≡ least (child_numbers goal (children_of trees)) → IsChildAt goal v trees d
child_at goal v [] d h e = absurd (h e)
child_at goal v (tree ∷ trees) d h e = child_here goal v tree trees d e (child_at goal v trees d h) (number goal tree == v) refl

-- an expanded node's number for the side to move is the least of its children's
pub own_number : (mover : Side) (turns : List Turn) (children : Children) → number mover (expanded mover turns children) ≡ least (child_numbers mover children)
own_number Attacker turns children = refl
own_number Defender turns children = refl

-- and its number for the other side is their capped sum
pub other_number : (mover : Side) (turns : List Turn) (children : Children) → number (opponent mover) (expanded mover turns children) ≡ capped_sum (child_numbers (opponent mover) children)
other_number Attacker turns children = refl
other_number Defender turns children = refl

-- at an undecided tree no side's number is 0
pub undecided_number : (tree : PartialTree) → IsUndecided tree → (goal : Side) → number goal tree ≢ 0
undecided_number tree u Attacker = u.0
undecided_number tree u Defender = u.1

-- a tree is undecided where neither a side's number nor its opponent's is 0
undecided_from : (tree : PartialTree) (goal : Side) → number goal tree ≢ 0 → number (opponent goal) tree ≢ 0 → IsUndecided tree
undecided_from tree Attacker a b = (a, b)
undecided_from tree Defender a b = (b, a)

-- the best child of an undecided node is there and undecided
pub best_child : (mover : Side) (turns : List Turn) (trees : List PartialTree) (d : PartialTree) → IsUndecided (expanded mover turns (children_of trees))
    → (index_of_best mover (children_of trees) < length trees) × IsUndecided (get_or trees (index_of_best mover (children_of trees)) d)
best_child mover turns trees d u =
    let v : ℕ = least (child_numbers mover (children_of trees)) in
    let tree : PartialTree = expanded mover turns (children_of trees) in
    let finite : v ≢ infinite = λ e. undecided_number tree u (opponent mover) (other_number mover turns (children_of trees) ∙ (dual_row mover (children_of trees)).infinite_zero e) in
    let positive : v ≢ 0 = λ e. undecided_number tree u mover (own_number mover turns (children_of trees) ∙ e) in
    let k = child_at mover v trees d finite refl in (
      k.0,
      undecided_from (get_or trees (index_of_best mover (children_of trees)) d) mover
          (λ e. positive (sym k.1 ∙ e))
          (λ e. finite (sym k.1 ∙ (dual mover (get_or trees (index_of_best mover (children_of trees)) d)).from_zero e)),
    )
