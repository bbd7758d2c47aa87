-- What a new number of one child makes of the least and of the sum of all.
use Rattle.std.proofs.Common.{◌≡◌, ℕ, zero, suc, ◌+◌, ◌-◌, ◌<◌, ◌≤◌, min, sum, List, [], ◌∷◌, ◌==◌, Bool, true, false, if◌then◌else◌, length, get_or, set, add-one, refl, sym, ◌∙◌, ap, subst, arith}
use Rattle.std.proofs.lemmas.Grind.{common_steps}
use Rattle.std.proofs.lemmas.List.{get_or-set_same}
use Rattle.tt_game.specs.declared.frame.Side.{Side}
use Rattle.tt_game.specs.Game.{opponent}
use Rattle.tt_search.specs.PartialTree.{PartialTree, fresh}
use Rattle.tt_search.specs.Numbers.{infinite, cap, least, has_infinite, capped_sum, number, child_numbers}
use Rattle.tt_search.specs.MostProving.{first_index_of, first_least_index}
use Rattle.tt_search.specs.inside.Children.{children_of}
use Rattle.tt_search.specs.inside.Choices.{Choices, node_with, best_index}
use Rattle.tt_search.specs.inside.Pairs.{changed_sum, ArePair}
use Rattle.tt_search.specs.inside.Edges.{edge_turns, edge_trees}
use Rattle.tt_search.specs.inside.ChildNodes.{choices_of, child_of, AreFew}
use Rattle.tt_search.specs.inside.ChildSteps.{IsPut}
use Rattle.tt_search.specs.declared.tree.children.ChildNodes.{ChildNodes}
use Rattle.tt_search.specs.declared.tree.numbers.PhiDelta.{PhiDelta}
use Rattle.tt_search.proofs.Indices.{length-turns_of, length-trees_by_turn}
use Rattle.tt_search.proofs.Best.{own_number, other_number}

-- ---- numbers

-- the number at its index is there, behind a first one that may be it
at_first : (v x : ℕ) (xs : List ℕ) → (first_index_of v xs < length xs → get_or xs (first_index_of v xs) 0 ≡ v) → (b : Bool) → (x == v) ≡ b → first_index_of v (x ∷ xs) < length (x ∷ xs)
    → get_or (x ∷ xs) (first_index_of v (x ∷ xs)) 0 ≡ v
at_first v x xs rest true e l = rw e (grind (arith, common_steps))
at_first v x xs rest false e l =
    let here : first_index_of v (x ∷ xs) ≡ first_index_of v xs + 1 = ap (λ c. if c then 0 else first_index_of v xs + 1) e in
    rw (here, add-one) (rest (omega (arith, l, here)))

-- the number at its index is there
at_index : (v : ℕ) (xs : List ℕ) → first_index_of v xs < length xs → get_or xs (first_index_of v xs) 0 ≡ v
at_index v [] l = absurd (omega arith)
at_index v (x ∷ xs) l = at_first v x xs (at_index v xs) (x == v) refl l

-- a number no greater than the least, instead of the first least one behind another, is the first least one
set_behind : (v m x : ℕ) (xs : List ℕ) (i : ℕ) → (i ≡ first_index_of v xs → first_index_of m (set xs i m) ≡ i) → (b : Bool) → (x == v) ≡ b → suc i ≡ first_index_of v (x ∷ xs) → v ≤ x → m ≤ v
    → first_index_of m (x ∷ set xs i m) ≡ suc i
set_behind v m x xs i rest true q e b h = absurd (omega (arith, e, ap (λ c. if c then 0 else first_index_of v xs + 1) q))
set_behind v m x xs i rest false q e b h =
    let here : i ≡ first_index_of v xs = omega (arith, e, ap (λ c. if c then 0 else first_index_of v xs + 1) q) in
    let k = rest here in
    grind (arith, common_steps)

-- a number no greater than the least, instead of the first least one, is the first least one
index_set : (v m : ℕ) (xs : List ℕ) (i : ℕ) → i ≡ first_index_of v xs → i < length xs → v ≤ least xs → m ≤ v → first_index_of m (set xs i m) ≡ i
index_set v m [] i e l b h = absurd (omega arith)
index_set v m (x ∷ xs) zero e l b h = grind (arith, common_steps)
index_set v m (x ∷ xs) (suc i) e l b h = set_behind v m x xs i (λ k. index_set v m xs i k (omega arith) (omega (arith, b)) h) (x == v) refl e (omega (arith, b)) h

-- the least is no greater than a number
least_at : (xs : List ℕ) (i : ℕ) → i < length xs → least xs ≤ get_or xs i 0
least_at [] i l = absurd (omega arith)
least_at (x ∷ xs) zero l = omega arith
least_at (x ∷ xs) (suc i) l = omega (arith, least_at xs i (omega arith))

-- and it is the least
least_set : (m : ℕ) (xs : List ℕ) (i : ℕ) → i < length xs → get_or xs i 0 ≤ least xs → m ≤ least xs → least (set xs i m) ≡ m
least_set m [] i l e h = absurd (omega arith)
least_set m (x ∷ xs) zero l e h = omega (arith, e, h)
least_set m (x ∷ xs) (suc i) l e h =
    omega (arith, h, least_set m xs i (omega arith) (omega (arith, e)) (omega (arith, h)))

-- what is no more than any number, nor than a new one, is no more than any then
least_above : (m v : ℕ) (xs : List ℕ) (i : ℕ) → v ≤ least xs → v ≤ m → v ≤ least (set xs i m)
least_above m v [] i h k = h
least_above m v (x ∷ xs) zero h k = omega (arith, h, k)
least_above m v (x ∷ xs) (suc i) h k = omega (arith, h, least_above m v xs i (omega (arith, h)) k)

-- a sum below the cap is that of finite numbers
finite_sum : (xs : List ℕ) → capped_sum xs < cap → (has_infinite xs ≡ false) × (sum xs ≡ capped_sum xs)
finite_sum xs h = below (has_infinite xs) refl
  where
    below : (b : Bool) → has_infinite xs ≡ b → (has_infinite xs ≡ false) × (sum xs ≡ capped_sum xs)
    below true e = absurd (omega (arith, h, ap (λ c. if c then infinite else min (sum xs) cap) e))
    below false e = (e, omega (arith, h, ap (λ c. if c then infinite else min (sum xs) cap) e))

-- with another number at an index the sum has that one for the old one
sum_set : (m : ℕ) (xs : List ℕ) (i : ℕ) → i < length xs → sum (set xs i m) + get_or xs i 0 ≡ sum xs + m
sum_set m [] i l = absurd (omega arith)
sum_set m (x ∷ xs) zero l = grind (arith, common_steps)
sum_set m (x ∷ xs) (suc i) l = let rest = sum_set m xs i (omega arith) in grind (arith, common_steps)

-- each number is a part of the sum
number_in_sum : (xs : List ℕ) (i : ℕ) → i < length xs → get_or xs i 0 ≤ sum xs
number_in_sum [] i l = absurd (omega arith)
number_in_sum (x ∷ xs) zero l = grind (arith, common_steps)
number_in_sum (x ∷ xs) (suc i) l = let rest = number_in_sum xs i (omega arith) in grind (arith, common_steps)

-- among finite numbers, only the new one may be infinite
infinite_set : (m : ℕ) (xs : List ℕ) (i : ℕ) → i < length xs → has_infinite xs ≡ false → has_infinite (set xs i m) ≡ (m == infinite)
infinite_set m [] i l h = absurd (omega arith)
infinite_set m (x ∷ xs) zero l h = grind (arith, common_steps)
infinite_set m (x ∷ xs) (suc i) l h =
    let tail : has_infinite xs ≡ false = grind (arith, common_steps) in
    let rec = infinite_set m xs i (omega arith) tail in
    grind (arith, common_steps)

-- the old number is a part of what the sum was, and the change to the new one gives the sum that is now
abbrev IsChange : ℕ → ℕ → ℕ → ℕ → Type 0
IsChange was old new now = (old ≤ was) × (changed_sum was old new ≡ now)

-- so it is where the sum was below the cap
sum_changed : (m : ℕ) (xs : List ℕ) (i : ℕ) → i < length xs → capped_sum xs < cap → IsChange (capped_sum xs) (get_or xs i 0) m (capped_sum (set xs i m))
sum_changed m xs i l h =
    let f = finite_sum xs h in
    let s = sum_set m xs i l in
    let part : get_or xs i 0 ≤ sum xs = number_in_sum xs i l in (
      omega (arith, f.1, part),
      ap (λ b. if b then infinite else min (capped_sum xs - get_or xs i 0 + m) cap) (sym (infinite_set m xs i l f.0))
          ∙ ap (λ n. if has_infinite (set xs i m) then infinite else min n cap) (omega (arith, f.1, s, part)),
    )

-- ---- children

-- the numbers with another tree at an index
numbers_set : (goal : Side) (trees : List PartialTree) (i : ℕ) (tree : PartialTree)
    → child_numbers goal (children_of (set trees i tree)) ≡ set (child_numbers goal (children_of trees)) i (number goal tree)
numbers_set goal [] i tree = refl
numbers_set goal (t ∷ trees) zero tree = refl
numbers_set goal (t ∷ trees) (suc i) tree = ap (λ ns. number goal t ∷ ns) (numbers_set goal trees i tree)

-- the number at an index
number_at : (goal : Side) (trees : List PartialTree) (i : ℕ) (d : PartialTree) → i < length trees → get_or (child_numbers goal (children_of trees)) i 0 ≡ number goal (get_or trees i d)
number_at goal [] i d l = absurd (omega arith)
number_at goal (t ∷ trees) zero d l = refl
number_at goal (t ∷ trees) (suc i) d l = number_at goal trees i d (omega arith)

-- there are as many numbers as trees
length-numbers : (goal : Side) (trees : List PartialTree) → length (child_numbers goal (children_of trees)) ≡ length trees
length-numbers goal [] = refl
length-numbers goal (t ∷ trees) = ap suc (length-numbers goal trees)

-- ---- the best child has become another tree

module _ (mover : Side) (old new : ChildNodes) (p : ℕ) (tree : PartialTree) (is : p ≡ best_index (choices_of mover old)) (there : p < length (edge_trees old.edges old.grown.items))
    (put : IsPut p old tree new) where
  abbrev trees : List PartialTree
  trees = edge_trees old.edges old.grown.items

  abbrev row : Side → List ℕ
  row goal = child_numbers goal (children_of trees)

  -- there are as many edges
  edges_stay : length new.edges ≡ length old.edges
  edges_stay = omega (arith, ap length put.turns, length-turns_of new.edges, length-turns_of old.edges)

  -- so there are no more than before
  pub few_stay : AreFew old → AreFew new
  few_stay h = omega (arith, h, edges_stay)

  -- and the index is still there
  pub index_there : p < length new.edges
  index_there = omega (arith, there, length-trees_by_turn old.edges old.grown.items, edges_stay)

  -- the child at the index is the tree
  pub tree_there : child_of new p ≡ tree
  tree_there = ap (λ us. get_or us p fresh) put.trees ∙ get_or-set_same trees p tree fresh there

  -- the index is one among the numbers
  in_row : (goal : Side) → p < length (row goal)
  in_row goal = omega (arith, length-numbers goal trees, there)

  -- the numbers have that of the tree at the index
  row_is : (goal : Side) → child_numbers goal (children_of (edge_trees new.edges new.grown.items)) ≡ set (row goal) p (number goal tree)
  row_is goal = ap (λ us. child_numbers goal (children_of us)) put.trees ∙ numbers_set goal trees p tree

  -- the number at the index was the least
  least_there : get_or (row mover) p 0 ≡ least (row mover)
  least_there = ap (λ i. get_or (row mover) i 0) is ∙ at_index (least (row mover)) (row mover) (omega (arith, in_row mover, is))

  module _ (no_more : number mover tree ≤ least (row mover)) where
    -- where the least hasn't risen, it is the tree's number
    least_set_is : least (set (row mover) p (number mover tree)) ≡ number mover tree
    least_set_is = least_set (number mover tree) (row mover) p (in_row mover) (omega (arith, least_there)) no_more

    pub least_stays : number mover tree ≡ least (child_numbers mover (children_of (edge_trees new.edges new.grown.items)))
    least_stays = sym (ap least (row_is mover) ∙ least_set_is)

    -- and the index is that of the best child
    pub index_stays : p ≡ best_index (choices_of mover new)
    index_stays =
        sym (ap first_least_index (row_is mover) ∙ ap (λ v. first_index_of v (set (row mover) p (number mover tree))) least_set_is
        ∙ index_set (least (row mover)) (number mover tree) (row mover) p is (in_row mover) (omega arith) no_more)

  -- where the sum was below the cap, the change gives the new sum
  pub sum_here : capped_sum (row (opponent mover)) < cap
      → IsChange (capped_sum (row (opponent mover))) (number (opponent mover) (child_of old p)) (number (opponent mover) tree)
      (capped_sum (child_numbers (opponent mover) (children_of (edge_trees new.edges new.grown.items))))
  sum_here h =
      let goal : Side = opponent mover in
      let k = sum_changed (number goal tree) (row goal) p (in_row goal) h in
      let at = number_at goal trees p fresh there in
      (omega (arith, k.0, at), ap (λ n. changed_sum (capped_sum (row goal)) n (number goal tree)) (sym at) ∙ k.1 ∙ ap capped_sum (sym (row_is goal)))

-- what steps of the best child make of the node's numbers, where it was the first child, and is the second one now
module _ (mover : Side) (old new : ChildNodes) (p : ℕ) (v : Choices) (was : PhiDelta) (view_is : choices_of mover old ≡ v)
    (pair : ArePair v.mover (node_with v) was) (is : p ≡ best_index (choices_of mover old))
    (there : best_index v < length v.trees) (tree : PartialTree) (put : IsPut p old tree new) (second : PartialTree) (second_is : second ≡ child_of new p) where
  abbrev before : Side → List ℕ
  before goal = child_numbers goal (children_of (edge_trees old.edges old.grown.items))

  abbrev after : Side → List ℕ
  after goal = child_numbers goal (children_of (edge_trees new.edges new.grown.items))

  -- the index is there
  pub in_trees : p < length (edge_trees old.edges old.grown.items)
  in_trees = omega (arith, is, subst (λ (c : Choices). best_index c < length c.trees) (sym view_is) there)

  pair_here : ArePair mover (node_with (choices_of mover old)) was
  pair_here = subst (λ (c : Choices). ArePair c.mover (node_with c) was) (sym view_is) pair

  -- the node's numbers were the least and the sum
  own_was : was.own ≡ least (before mover)
  own_was = pair_here.own ∙ own_number mover (edge_turns old.edges) (children_of (edge_trees old.edges old.grown.items))

  other_was : was.other ≡ capped_sum (before (opponent mover))
  other_was = pair_here.other ∙ other_number mover (edge_turns old.edges) (children_of (edge_trees old.edges old.grown.items))

  tree_is : tree ≡ second
  tree_is = sym (second_is ∙ tree_there mover old new p tree is in_trees put)

  module _ (goal : Side) (goal_is : goal ≡ opponent mover) (first : PartialTree) (first_is : first ≡ child_of old p) (a b : ℕ) (a_is : a ≡ number goal first) (b_is : b ≡ number goal second) where
    a_was : number (opponent mover) (child_of old p) ≡ a
    a_was = sym (a_is ∙ ap (number goal) first_is ∙ ap (λ side. number side (child_of old p)) goal_is)

    b_now : number (opponent mover) tree ≡ b
    b_now = sym (b_is ∙ ap (number goal) (sym tree_is) ∙ ap (λ side. number side tree) goal_is)

    here : was.other < cap
        → IsChange (capped_sum (before (opponent mover))) (number (opponent mover) (child_of old p)) (number (opponent mover) tree) (capped_sum (after (opponent mover)))
    here h = sum_here mover old new p tree is in_trees put (omega (arith, h, other_was))

    -- the child's number was a part of a sum below the cap
    pub part_was : was.other < cap → a ≤ was.other
    part_was h = omega (arith, a_was, other_was, (here h).0)

    -- and the change gives the new sum
    pub sum_now : was.other < cap → changed_sum was.other a b ≡ capped_sum (after (opponent mover))
    sum_now h =
        ap (λ n. changed_sum n a b) other_was
        ∙ ap (λ n. changed_sum (capped_sum (before (opponent mover))) n b) (sym a_was)
        ∙ ap (changed_sum (capped_sum (before (opponent mover))) (number (opponent mover) (child_of old p))) (sym b_now)
        ∙ (here h).1

  module _ (own : ℕ) (own_is : own ≡ number mover second) (no_more : own ≤ was.own) where
    not_risen : number mover tree ≤ least (before mover)
    not_risen = omega (arith, own_is, no_more, own_was, ap (number mover) tree_is)

    -- where the least hasn't risen, the index is still that of the best child
    pub index_now : p ≡ best_index (choices_of mover new)
    index_now = index_stays mover old new p tree is in_trees put not_risen

    -- and the child's number is the node's
    pub own_now : own ≡ least (after mover)
    own_now = own_is ∙ ap (number mover) (sym tree_is) ∙ least_stays mover old new p tree is in_trees put not_risen

  -- where the child's number hasn't fallen, none is below what the least was
  pub above_was : (own : ℕ) → own ≡ number mover second → was.own ≤ own → was.own ≤ least (after mover)
  above_was own own_is more =
      omega (
        arith,
        ap least (row_is mover old new p tree is in_trees put mover),
        least_above (number mover tree) was.own (before mover) p (omega (arith, own_was)) (omega (arith, more, own_is, ap (number mover) tree_is)),
      )

-- the least and the sum are the node's numbers
pub pair_of : (c : Choices) (own other : ℕ) → own ≡ least (child_numbers c.mover (children_of c.trees)) → other ≡ capped_sum (child_numbers (opponent c.mover) (children_of c.trees))
    → ArePair c.mover (node_with c) (record { own = own; other = other })
pair_of c own other a b = record { own = a ∙ sym (own_number c.mover c.turns (children_of c.trees)); other = b ∙ sym (other_number c.mover c.turns (children_of c.trees)) }
