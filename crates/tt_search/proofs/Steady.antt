-- Steps that keep the numbers of a node's best child keep those of the node, and it stays the best child.
use Rattle.std.proofs.Common.{◌≡◌, ◌≢◌, ◌↔◌, ℕ, zero, suc, ◌+◌, ◌*◌, ◌<◌, ◌≤◌, ◌⊎◌, inl, inr, Bool, true, false, List, [], ◌∷◌, length, get_or, set, refl, sym, ◌∙◌, ap, subst, arith}
use Rattle.std.proofs.lemmas.List.{length-set, get_or-set_same, set-get_or}
use Rattle.tt_game.specs.declared.frame.Side.{Side}
use Rattle.tt_game.specs.declared.frame.Side.TheVariants.{Attacker, Defender}
use Rattle.tt_game.specs.declared.turns.Turn.{Turn}
use Rattle.tt_game.specs.Line.{LineWithUndo}
use Rattle.tt_search.specs.PartialTree.{PartialTree, expanded}
use Rattle.tt_search.specs.Numbers.{combined_number, number, child_numbers, count, IsUndecided}
use Rattle.tt_search.specs.MostProving.{first_least_index, index_of_best}
use Rattle.tt_search.specs.inside.Walking.{Stand, Stage, stage, stand, stand_of, stand_after, MayGrow}
use Rattle.tt_search.specs.inside.Taken.{Taken, IsLeft}
use Rattle.tt_search.specs.inside.Steady.{HaveSameNumbers, IsGrowth, Steady, AreStepsAt}
use Rattle.tt_search.specs.inside.Children.{children_of}
use Rattle.tt_search.specs.declared.limits.Step.{Step}
use Rattle.tt_search.specs.declared.limits.Step.TheVariants.{Expanded, Closed}
use Rattle.tt_search.specs.declared.descent.StopAfter.{StopAfter}
use Rattle.tt_search.specs.declared.descent.StopAfter.TheVariants.{OneStep}
use Rattle.tt_search.specs.declared.descent.Descent.{Descent}
use Rattle.tt_search.proofs.Lifted.{lifted}
use Rattle.tt_search.proofs.Steps.{taken_keeps, counted_expanded, counted_closed, IsTreeWithin, IsOfferable, offerable}
use Rattle.tt_search.proofs.Open.{open_leaves, falls_expanded, falls_closed}

-- ---- what growths that keep the numbers keep

-- all of them together keep the numbers
pub steady_numbers : (n : ℕ) (at : Stand) (old new : Stage) → Steady n at old new → HaveSameNumbers old.tree new.tree
steady_numbers zero at old new e goal = ap (λ (x : Stage). number goal x.tree) e
steady_numbers (suc n) at old new (before, h, g, same) goal = same goal ∙ steady_numbers n at old before h goal

-- a tree with the numbers of an undecided one is undecided
pub undecided_same : (a b : PartialTree) → HaveSameNumbers a b → IsUndecided a → IsUndecided b
undecided_same a b h u = (λ e. u.0 (sym (h Attacker) ∙ e), λ e. u.1 (sym (h Defender) ∙ e))

-- so all of them together keep a tree undecided
pub steady_undecided : (n : ℕ) (at : Stand) (old new : Stage) → Steady n at old new → IsUndecided old.tree → IsUndecided new.tree
steady_undecided n at old new h = undecided_same old.tree new.tree (steady_numbers n at old new h)

-- what is left for an expansion isn't nothing
some_left : (a b : ℕ) → a ≡ b + 1 → a ≢ 0
some_left a b e z = omega (arith, e, z)

-- a growth keeps a partial tree one, within its room
growth_keeps : (at : Stand) (old new : Stage) → IsGrowth at old new → MayGrow at old.tree → IsTreeWithin at new.tree
growth_keeps at old new (inl h) m = taken_keeps at old Expanded new.tree m (some_left old.left new.left h.0, h.1)
growth_keeps at old new (inr h) m = taken_keeps at old Closed new.tree m h.1

-- all of them together keep that a tree may grow
pub steady_keeps : (n : ℕ) (at : Stand) (old new : Stage) → Steady n at old new → MayGrow at old.tree → MayGrow at new.tree
steady_keeps zero at old new e m = subst (λ (x : Stage). MayGrow at x.tree) (sym e) m
steady_keeps (suc n) at old new (before, h, g, same) m =
    let was = steady_keeps n at old before h m in
    let keeps = growth_keeps at before new g was in
    record { undecided = undecided_same before.tree new.tree same was.undecided; partial = keeps.0; stays = keeps.1 }

-- ---- an end

-- what is left to do below a node
abbrev pub to_do : Stage → ℕ
to_do now = open_leaves now.tree + now.left * 363

-- a growth leaves less to do
pub growth_falls : (at : Stand) (old new : Stage) → IsGrowth at old new → IsUndecided old.tree → to_do new < to_do old
growth_falls at old new (inl h) u =
    let budget = old.left + count old.tree in
    omega (arith, h.0, falls_expanded at.room budget at.frame at.state old.tree new.tree u (omega (arith, h.0)) h.1, counted_expanded at old.tree new.tree u h.1)
growth_falls at old new (inr h) u =
    let budget = old.left + count old.tree in
    omega (arith, h.0, falls_closed at.room budget at.frame at.state old.tree new.tree u h.1, counted_closed at old.tree new.tree u h.1)

-- growths together leave no more to do
pub steady_falls : (n : ℕ) (at : Stand) (old new : Stage) → Steady n at old new → IsUndecided old.tree → to_do new ≤ to_do old
steady_falls zero at old new e u = omega (arith, ap to_do e)
steady_falls (suc n) at old new (before, h, g, same) u =
    omega (arith, steady_falls n at old before h u, growth_falls at before new g (steady_undecided n at old before h u))

-- a step that changes its tree grows it
pub changed_grows : (at : Stand) (old : Stage) (step : Step) (new : Stage) → Taken at old step new.tree → IsLeft step old.left new.left → (step ≡ Expanded) ⊎ (step ≡ Closed) → IsGrowth at old new
changed_grows at old step new h l (inl e) = inl (subst (λ s. IsLeft s old.left new.left) e l, (subst (λ x. Taken at old x new.tree) e h).1)
changed_grows at old step new h l (inr e) = inr (subst (λ s. IsLeft s old.left new.left) e l, subst (λ x. Taken at old x new.tree) e h)

-- ---- rounds at one node

-- growths go on where others ended
steady_joined : (n m : ℕ) (at : Stand) (a b c : Stage) → Steady n at a b → Steady m at b c → Steady (m + n) at a c
steady_joined n zero at a b c h e =
    let none : n ≡ 0 + n = omega arith in
    subst (λ k. Steady k at a c) none (subst (Steady n at a) (sym e) h)
steady_joined n (suc m) at a b c h (before, k, g, same) =
    let one_more : suc (m + n) ≡ suc m + n = omega arith in
    subst (λ k. Steady k at a c) one_more (before, steady_joined n m at a b before h k, g, same)

-- where the rounds of a node have led so far
pub record IsUnderWay (stop : StopAfter) (at : Stand) (old now : Stage) : Type 0 where
  pub rounds : ℕ
  pub steady : Steady rounds at old now
  pub one : stop ≡ OneStep → rounds ≡ 0
  pub may_grow : MayGrow at now.tree

module _ (stop : StopAfter) (at : Stand) (old now : Stage) (step : Step) (new : Stage) (steps : AreStepsAt stop at now step new) where
  -- the steps of a round that is the last one
  pub last_round : IsUnderWay stop at old now → AreStepsAt stop at old step new
  last_round h = record {
    how_many = steps.how_many + h.rounds;
    before = steps.before;
    steady = steady_joined h.rounds steps.how_many at old now steps.before h.steady steps.steady;
    one = λ e. omega (arith, h.one e, steps.one e);
    taken = steps.taken;
    counted = steps.counted;
  }

  -- a round that changes its tree ends with a growth
  growth_of : (step ≡ Expanded) ⊎ (step ≡ Closed) → IsGrowth at steps.before new
  growth_of = changed_grows at steps.before step new steps.taken steps.counted

  -- a round that changes its tree leaves less to do
  pub round_falls : (step ≡ Expanded) ⊎ (step ≡ Closed) → IsUndecided now.tree → to_do new < to_do now
  round_falls changed u = omega (
    arith,
    steady_falls steps.how_many at now steps.before steps.steady u,
    growth_falls at steps.before new (growth_of changed) (steady_undecided steps.how_many at now steps.before steps.steady u),
  )

  -- a round that keeps the numbers is one more growth
  round_steady : (step ≡ Expanded) ⊎ (step ≡ Closed) → HaveSameNumbers now.tree new.tree → Steady (suc steps.how_many) at now new
  round_steady changed same = (
    steps.before,
    steps.steady,
    growth_of changed,
    λ goal. same goal ∙ sym (steady_numbers steps.how_many at now steps.before steps.steady goal),
  )

  -- and the rounds are under way
  pub next_round : (once : Bool) → (once ≡ true) ↔ (stop ≡ OneStep) → once ≡ false → IsUnderWay stop at old now → (step ≡ Expanded) ⊎ (step ≡ Closed)
      → HaveSameNumbers now.tree new.tree → IsUnderWay stop at old new
  next_round once says more h changed same =
      let steady = round_steady changed same in
      record {
        rounds = suc steps.how_many + h.rounds;
        steady = steady_joined h.rounds (suc steps.how_many) at old now new h.steady steady;
        one = λ e. let is : once ≡ true = says.1 e in cc;
        may_grow = steady_keeps (suc steps.how_many) at now new steady h.may_grow;
      }

-- trees with one proof number and one disproof number have the same numbers
pub same_numbers : (a b : PartialTree) → number Attacker b ≡ number Attacker a → number Defender b ≡ number Defender a → HaveSameNumbers a b
same_numbers a b p d Attacker = p
same_numbers a b p d Defender = d

-- what steps make of a tree may be offered
pub steps_offerable : (stop : StopAfter) (line : LineWithUndo) (room : ℕ) (old : Stage) (step : Step) (new : Stage) → room ≤ 512 → MayGrow (stand line room) old.tree
    → AreStepsAt stop (stand line room) old step new → IsOfferable line new.tree
steps_offerable stop line room old step new l m k =
    offerable line room new.tree l (taken_keeps (stand line room) k.before step new.tree (steady_keeps k.how_many (stand line room) old k.before k.steady m) k.taken)

-- two walks on one line with the same room have one stand
pub same_stand : (a b : Descent) → a.line ≡ b.line → a.room ≡ b.room → stand_of a ≡ stand_of b
same_stand a b l r = ap (λ x. stand x a.room) l ∙ ap (stand b.line) r

-- ---- from the best child to its node

-- a tree with the same number instead of a child leaves the children's numbers as they were
numbers_set : (goal : Side) (trees : List PartialTree) (i : ℕ) (d tree : PartialTree) → number goal tree ≡ number goal (get_or trees i d)
    → child_numbers goal (children_of (set trees i tree)) ≡ child_numbers goal (children_of trees)
numbers_set goal [] i d tree h = refl
numbers_set goal (t ∷ trees) zero d tree h = ap (λ n. n ∷ child_numbers goal (children_of trees)) h
numbers_set goal (t ∷ trees) (suc i) d tree h = ap (λ ns. number goal t ∷ ns) (numbers_set goal trees i d tree h)

-- of two items put at one index, the second one stays
set_twice : (trees : List PartialTree) (i : ℕ) (a b : PartialTree) → set (set trees i a) i b ≡ set trees i b
set_twice [] i a b = refl
set_twice (t ∷ trees) zero a b = refl
set_twice (t ∷ trees) (suc i) a b = ap (λ ts. t ∷ ts) (set_twice trees i a b)

module _ (at : Stand) (mover : Side) (turns : List Turn) (trees : List PartialTree) (t : Turn) (child : PartialTree) (p : ℕ) (index_is : p ≡ index_of_best mover (children_of trees))
    (in_trees : p < length trees) (same : length turns ≡ length trees) (t_is : t ≡ get_or turns p t) (child_is : child ≡ get_or trees p child) (pos : 0 < at.room) where
  -- the node with another tree instead of its best child
  abbrev pub with_child : PartialTree → PartialTree
  with_child tree = expanded mover turns (children_of (set trees p tree))

  abbrev with_stage : Stage → Stage
  with_stage now = stage (with_child now.tree) now.left

  abbrev below : Stand
  below = stand_after at t

  -- with its own best child, the node is as it was
  with_child_is : with_child child ≡ expanded mover turns (children_of trees)
  with_child_is =
      ap (λ c. expanded mover turns (children_of (set trees p c))) child_is
      ∙ ap (λ ts. expanded mover turns (children_of ts)) (set-get_or trees p child)

  -- a tree with the best child's numbers leaves the children's numbers as they were
  row_is : (tree : PartialTree) → HaveSameNumbers child tree → (goal : Side) → child_numbers goal (children_of (set trees p tree)) ≡ child_numbers goal (children_of trees)
  row_is tree h goal = numbers_set goal trees p child tree (h goal ∙ ap (number goal) child_is)

  -- and it is the best child again
  best_is : (tree : PartialTree) → HaveSameNumbers child tree → index_of_best mover (children_of (set trees p tree)) ≡ p
  best_is tree h = ap first_least_index (row_is tree h mover) ∙ sym index_is

  -- two trees with the best child's numbers give the node the same numbers
  numbers_are : (a b : PartialTree) → HaveSameNumbers child a → HaveSameNumbers child b → HaveSameNumbers (with_child a) (with_child b)
  numbers_are a b h k goal = ap (combined_number goal mover) (row_is b k goal ∙ sym (row_is a h goal))

  -- lifted, where the index of the best child is given by an equation
  lifted_at : (now : Stage) (q : ℕ) → q ≡ p → (step : Step) (new : PartialTree)
      → (Taken (stand_after at (get_or turns q t)) (stage (get_or (set trees p now.tree) q child) now.left) step new
      → Taken at (with_stage now) step (expanded mover turns (children_of (set (set trees p now.tree) q new)))) → Taken below now step new → Taken at (with_stage now) step (with_child new)
  lifted_at now q e step new lift h =
      subst (λ ts. Taken at (with_stage now) step (expanded mover turns (children_of ts))) (ap (λ r. set (set trees p now.tree) r new) e ∙ set_twice trees p now.tree new)
      (lift (subst (λ x. Taken (stand_after at x) (stage (get_or (set trees p now.tree) q child) now.left) step new) (t_is ∙ ap (λ r. get_or turns r t) (sym e))
      (subst (λ x. Taken below (stage x now.left) step new) (sym (ap (λ r. get_or (set trees p now.tree) r child) e ∙ get_or-set_same trees p now.tree child in_trees)) h)))

  -- a step of the best child is one of the node
  step_lifted : (now : Stage) → HaveSameNumbers child now.tree → (step : Step) (new : PartialTree) → Taken below now step new → Taken at (with_stage now) step (with_child new)
  step_lifted now h step new =
      let row : List PartialTree = set trees p now.tree in
      let there : index_of_best mover (children_of row) < length row = omega (arith, best_is now.tree h, in_trees, length-set trees p now.tree) in
      lifted_at now (index_of_best mover (children_of row)) (best_is now.tree h) step new (lifted at mover turns row t child (same ∙ sym (length-set trees p now.tree)) there now.left step new pos)

  -- a growth of the best child is one of the node
  growth_lifted : (old new : Stage) → HaveSameNumbers child old.tree → IsGrowth below old new → IsGrowth at (with_stage old) (with_stage new)
  growth_lifted old new h (inl k) = inl (k.0, (step_lifted old h Expanded new.tree (some_left old.left new.left k.0, k.1)).1)
  growth_lifted old new h (inr k) = inr (k.0, step_lifted old h Closed new.tree k.1)

  -- growths of the best child that keep its numbers keep those of the node
  steady_lifted : (n left : ℕ) (new : Stage) → Steady n below (stage child left) new → Steady n at (stage (expanded mover turns (children_of trees)) left) (with_stage new)
  steady_lifted zero left new e = ap with_stage e ∙ ap (λ tree. stage tree left) with_child_is
  steady_lifted (suc n) left new (before, k, g, h) =
      let numbers_before = steady_numbers n below (stage child left) before k in (
        with_stage before,
        steady_lifted n left before k,
        growth_lifted before new numbers_before g,
        numbers_are before.tree new.tree numbers_before (λ goal. h goal ∙ numbers_before goal),
      )

  -- the steps of the best child are steps of the node
  pub steps_lifted : (stop : StopAfter) (left : ℕ) (step : Step) (new : Stage) → AreStepsAt stop below (stage child left) step new
      → AreStepsAt stop at (stage (expanded mover turns (children_of trees)) left) step (with_stage new)
  steps_lifted stop left step new k = record {
    how_many = k.how_many;
    before = with_stage k.before;
    steady = steady_lifted k.how_many left k.before k.steady;
    one = k.one;
    taken = step_lifted k.before (steady_numbers k.how_many below (stage child left) k.before k.steady) step new.tree k.taken;
    counted = k.counted;
  }
