-- Targets, and the nodes up to the first that marks one.
use Rattle.std.proofs.Common.{◌≡◌, ℕ, suc, ◌+◌, ◌*◌, ◌<◌, ◌&&◌, ◌||◌, nat_le, ltb, Bool, true, false, cond, List, [], ◌∷◌, Option, Some, None, Ok, Err, refl, sym, ap, ◌∙◌, inl, inr}
use Rattle.std.specs.List.{list_any, list_all}
use Rattle.std.specs.FinSet as set
use Rattle.std.specs.Ordering.{nat_cmp}
use Rattle.std.proofs.lemmas.Bool.{cases_Bool, and_parts, or_cases, false≢true, ltb-true}
use Rattle.std.proofs.lemmas.Option.{none-some}
use Rattle.tt_sgf.specs.declared.size.Size.{Size}
use Rattle.tt_sgf.specs.declared.nodes.Node.{Node}
use Rattle.tt_sgf.specs.Sizes.{point_count}
use Rattle.tt_sgf.specs.PointLists.{set_of, covers, rectangle_covers, rectangle_of_text, in_rectangle, is_entry}
use Rattle.tt_sgf.specs.Values.{trimmed}
use Rattle.tt_sgf.specs.Points.{passing}
use Rattle.tt_sgf.specs.laws.PointLaws.{contains-passing}
use Rattle.tt_game.specs.declared.faults.GameFault.{GameFault}
use Rattle.tt_game.specs.declared.faults.GameFault.TheVariants.{NoTarget}
use Rattle.tt_game.specs.declared.records.GameSoFar.{GameSoFar}
use Rattle.tt_game.specs.Nodes.{TR, has, move_count}
use Rattle.tt_game.specs.Records.{and_then, at_node, step_node}
use Rattle.tt_game.specs.Problems.{node_count_before_solution, adds_stones, problem_at_node, problem_at_targets}

-- what a value covers is on the board
covered_on : (size : Size) (e : Option _) (q : ℕ) → rectangle_covers size e q ≡ true → q < point_count size
covered_on size None q h = absurd (false≢true h)
covered_on size (Some e) q h = ltb-true q (size.columns * size.rows) (and_parts _ (in_rectangle size.columns e q) h).0

-- so is what one of several covers
any_on : (size : Size) (vs : List (List ℕ)) (q : ℕ) → list_any (λ v. covers size v q) vs ≡ true → q < point_count size
any_on size [] q h = absurd (false≢true h)
any_on size (v ∷ vs) q h = elim (or_cases (covers size v q) (list_any (λ w. covers size w q) vs) h) [
  | inl here ↦ covered_on size (rectangle_of_text size (trimmed v)) q here
  | inr there ↦ any_on size vs q there
]

-- the points of a point list are on the board
pub set_on_board : (size : Size) (vs : List (List ℕ)) (s : set.FinSet nat_cmp) (q : ℕ) → set_of size vs ≡ Some s → set.contains s q ≡ true → q < point_count size
unfolding set_of
set_on_board size vs s q e h = elim (cases_Bool (list_all (is_entry size) vs)) [
  | inr off ↦ absurd (none-some s (sym (ap (λ b. cond b (Some (passing (λ p. list_any (λ v. covers size v p) vs) 361)) None) off) ∙ e))
  | inl on ↦
      let is : Some s ≡ Some (passing (λ p. list_any (λ v. covers size v p) vs) 361) = sym e ∙ ap (λ b. cond b (Some (passing (λ p. list_any (λ v. covers size v p) vs) 361)) None) on in
      let same : s ≡ passing (λ p. list_any (λ v. covers size v p) vs) 361 = cc in
      any_on size vs q (and_parts (ltb q 361) _ (sym (contains-passing (λ p. list_any (λ v. covers size v p) vs) 361 q) ∙ ap (λ (t : set.FinSet nat_cmp). set.contains t q) (sym same) ∙ h)).1
]

-- the way to the mark: at its end no target, then a refused node, a node without a mark, and one with it
module _ (k : ℕ) (s : GameSoFar) where
  pub problem-nil : problem_at_targets k s [] ≡ Err NoTarget
  unfolding problem_at_targets
  problem-nil = refl

  pub problem-stop : (e : GameFault) (n : Node) (ns : List Node) → step_node (at_node (k + 1) s) n ≡ Err e → problem_at_targets k s (n ∷ ns) ≡ Err e
  unfolding problem_at_targets
  problem-stop e n ns h = ap (λ r. and_then r (λ t. cond (has TR n) (problem_at_node t n) (problem_at_targets (k + 1) t ns))) h

  pub problem-step : (t : GameSoFar) (n : Node) (ns : List Node) → step_node (at_node (k + 1) s) n ≡ Ok t → has TR n ≡ false → problem_at_targets k s (n ∷ ns) ≡ problem_at_targets (k + 1) t ns
  unfolding problem_at_targets
  problem-step t n ns h off =
      ap (λ r. and_then r (λ x. cond (has TR n) (problem_at_node x n) (problem_at_targets (k + 1) x ns))) h
      ∙ ap (λ b. cond b (problem_at_node t n) (problem_at_targets (k + 1) t ns)) off

  pub problem-here : (t : GameSoFar) (n : Node) (ns : List Node) → step_node (at_node (k + 1) s) n ≡ Ok t → has TR n ≡ true → problem_at_targets k s (n ∷ ns) ≡ problem_at_node t n
  unfolding problem_at_targets
  problem-here t n ns h on =
      ap (λ r. and_then r (λ x. cond (has TR n) (problem_at_node x n) (problem_at_targets (k + 1) x ns))) h
      ∙ ap (λ b. cond b (problem_at_node t n) (problem_at_targets (k + 1) t ns)) on

-- ---- the nodes in front of a solution

pub asked_nil : (up : Bool) → node_count_before_solution up [] ≡ 0
unfolding node_count_before_solution
asked_nil up = refl

-- a solution begins
pub asked_stop : (up : Bool) (n : Node) (ns : List Node) → (up && nat_le 1 (move_count n)) ≡ true → node_count_before_solution up (n ∷ ns) ≡ 0
unfolding node_count_before_solution
asked_stop up n ns h = rw h refl

-- or it doesn't yet
pub asked_step : (up : Bool) (n : Node) (ns : List Node) → (up && nat_le 1 (move_count n)) ≡ false → node_count_before_solution up (n ∷ ns) ≡ suc (node_count_before_solution (up || adds_stones n) ns)
unfolding node_count_before_solution
asked_step up n ns h = rw h refl
