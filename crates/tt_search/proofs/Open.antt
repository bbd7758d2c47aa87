-- Steps come to an end: an expansion uses up budget, and a closing uses up a fresh leaf.
use Rattle.std.proofs.Common.{◌≡◌, ℕ, zero, suc, ◌+◌, ◌-◌, ◌*◌, ◌<◌, ◌≤◌, List, [], ◌∷◌, Option, Some, None, ◌⊎◌, inl, inr, length, refl, sym, ◌∙◌, ap, subst, arith}
use Rattle.tt_game.specs.declared.frame.Side.{Side}
use Rattle.tt_game.specs.declared.turns.Turn.{Turn}
use Rattle.tt_game.specs.declared.frame.Frame.{Frame}
use Rattle.tt_game.specs.Game.{State, after, winner_of}
use Rattle.tt_game.specs.Turns.{legal_turns}
use Rattle.tt_game.specs.laws.TurnLaws.{length-legal_turns}
use Rattle.tt_search.specs.PartialTree.{PartialTree, fresh, won, closed, expanded, Children, no_more, more}
use Rattle.tt_search.specs.Numbers.{count, IsUndecided}
use Rattle.tt_search.specs.MostProving.{index_of_best, most_proving_state, with_most_proving, with_leaf_below}
use Rattle.tt_search.specs.Growing.{leaf_with_winner, new_leaves, expansion, IsExpansion, IsClosing, IsGrowthStep, IsGrownFrom}
use Rattle.tt_search.specs.SearchState.{SearchState, IsStepOf, HasSameLineAndLimits}
use Rattle.tt_search.specs.RunEnds.{HasRunTo}
use Rattle.tt_search.specs.declared.limits.Step.{Step}
use Rattle.tt_search.specs.declared.limits.Step.TheVariants.{Expanded, Closed}
use Rattle.tt_search.proofs.Grown.{UndecidedAt, best_undecided, won_decided, closed_decided, count_grown, expansion_count}

-- how many leaves are fresh
abbrev mutual
  pub open_leaves : PartialTree → ℕ
  open_leaves fresh = 1
  open_leaves (won side) = 0
  open_leaves (closed side tree) = 0
  open_leaves (expanded mover turns children) = open_in children

  pub open_in : Children → ℕ
  open_in no_more = 0
  open_in (more tree children) = open_leaves tree + open_in children

mutual
  -- a tree at the most-proving leaf of an undecided one takes that fresh leaf away and adds its own
  open_grown : (leaf tree : PartialTree) → IsUndecided tree → open_leaves (with_most_proving leaf tree) + 1 ≡ open_leaves tree + open_leaves leaf
  open_grown leaf fresh u = omega arith
  open_grown leaf (won side) u = absurd (won_decided side u)
  open_grown leaf (closed side tree) u = absurd (closed_decided side tree u)
  open_grown leaf (expanded mover turns children) u = open_in_grown leaf (index_of_best mover children) children (best_undecided mover turns children u)

  -- so it does below an undecided child
  open_in_grown : (leaf : PartialTree) (i : ℕ) (children : Children) → UndecidedAt i children → open_in (with_leaf_below leaf i children) + 1 ≡ open_in children + open_leaves leaf
  open_in_grown leaf i no_more u = absurd u
  open_in_grown leaf zero (more tree children) u = omega (arith, open_grown leaf tree u)
  open_in_grown leaf (suc i) (more tree children) u = omega (arith, open_in_grown leaf i children u)

-- a leaf that says who has won is at most one fresh leaf
leaf_for_open : (o : Option Side) → open_leaves (leaf_with_winner o) ≤ 1
leaf_for_open None = omega arith
leaf_for_open (Some side) = omega arith

-- there are at most as many fresh ones among the new leaves as turns
new_leaves_open : (f : Frame) (s : State) (turns : List Turn) → open_in (new_leaves f s turns) ≤ length turns
new_leaves_open f s [] = omega arith
new_leaves_open f s (t ∷ turns) = omega (arith, leaf_for_open (winner_of f (after f s t)), new_leaves_open f s turns)

-- an expansion below the budget leaves less to do
pub falls_expanded : (room budget : ℕ) (f : Frame) (s : State) (old new : PartialTree) → IsUndecided old → count old < budget → IsExpansion room f s old new
    → open_leaves new + (budget - count new) * 363 < open_leaves old + (budget - count old) * 363
falls_expanded room budget f s old new u b e =
    let leaf = most_proving_state f s old in
    omega (
      arith,
      b,
      ap open_leaves e.1,
      ap count e.1,
      open_grown (expansion f leaf) old u,
      count_grown (expansion f leaf) old u,
      expansion_count f leaf,
      new_leaves_open f leaf (legal_turns f leaf),
      length-legal_turns f leaf,
    )

-- so does a closing
pub falls_closed : (room budget : ℕ) (f : Frame) (s : State) (old new : PartialTree) → IsUndecided old → IsClosing room f s old new
    → open_leaves new + (budget - count new) * 363 < open_leaves old + (budget - count old) * 363
falls_closed room budget f s old new u (side, strategy, w, o, d, e) =
    omega (arith, ap open_leaves e, ap count e, open_grown (closed side strategy) old u, count_grown (closed side strategy) old u)

-- what a search has left to do: its fresh leaves, and 363 for each expansion that the budget has left
abbrev pub left_to_do : SearchState → ℕ
left_to_do search = open_leaves search.tree + (search.limits.budget - count search.tree) * 363

-- a step that expands or closes leaves less to do
pub falls : (old new : SearchState) (step : Step) → IsStepOf old step new → HasSameLineAndLimits old new → (step ≡ Expanded) ⊎ (step ≡ Closed) → left_to_do new < left_to_do old
falls old new step k same (inl e) =
    let h = subst (λ s. IsStepOf old s new) e k in
    subst (λ l. open_leaves new.tree + (l.budget - count new.tree) * 363 < left_to_do old) (sym same.limits)
    (falls_expanded old.limits.depth old.limits.budget old.line.frame old.line.state old.tree new.tree h.0 h.1 h.2)
falls old new step k same (inr e) =
    let h = subst (λ s. IsStepOf old s new) e k in
    subst (λ l. open_leaves new.tree + (l.budget - count new.tree) * 363 < left_to_do old) (sym same.limits)
    (falls_closed old.limits.depth old.limits.budget old.line.frame old.line.state old.tree new.tree h.0 h.1)

-- a step that expands or closes is a growth
grows_by : (old new : SearchState) (step : Step) → IsStepOf old step new → (step ≡ Expanded) ⊎ (step ≡ Closed) → IsGrowthStep old.limits old.line.frame old.line.state old.tree new.tree
grows_by old new step k (inl e) = let h = subst (λ s. IsStepOf old s new) e k in (h.0, inl (h.1, h.2))
grows_by old new step k (inr e) = let h = subst (λ s. IsStepOf old s new) e k in (h.0, inr h.1)

-- after growths, a step that expands or closes is one more
pub grows : (start old new : SearchState) (step : Step) → HasSameLineAndLimits start old → IsGrownFrom start.limits start.line.frame start.line.state start.tree old.tree → IsStepOf old step new
    → (step ≡ Expanded) ⊎ (step ≡ Closed) → IsGrownFrom start.limits start.line.frame start.line.state start.tree new.tree
grows start old new step same g k h = (
  suc g.0,
  (
    old.tree,
    g.1,
    subst (λ l. IsGrowthStep l start.line.frame start.line.state old.tree new.tree) same.limits
        (subst (λ l. IsGrowthStep old.limits l.frame l.state old.tree new.tree) same.line (grows_by old new step k h)),
  ),
)

-- what is on the same problem as one on a search's problem is on that search's
pub same_problem : (a b c : SearchState) → HasSameLineAndLimits a b → HasSameLineAndLimits b c → HasSameLineAndLimits a c
same_problem a b c h k = record { line = k.line ∙ h.line; limits = k.limits ∙ h.limits }

-- a search is reached from itself
pub reached_itself : (start : SearchState) → HasRunTo start start
reached_itself start = record { problem = record { line = refl; limits = refl }; grown = (0, refl) }

-- from a search that is reached, a step that expands or closes leads to one that is reached
pub reached_more : (start old new : SearchState) (step : Step) → HasRunTo start old → HasSameLineAndLimits old new → IsStepOf old step new → (step ≡ Expanded) ⊎ (step ≡ Closed) → HasRunTo start new
reached_more start old new step r same k h = record {
  problem = same_problem start old new r.problem same;
  grown = grows start old new step r.problem r.grown k h;
}
