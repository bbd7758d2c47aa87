-- Nobody has won at a problem: each target has a stone, and no pass was made.
use Rattle.std.proofs.Common.{◌≡◌, ℕ, ◌+◌, ◌<◌, ◌⊎◌, List, [], ◌∷◌, inl, inr, Bool, true, false, Option, Some, None, Ok, Err, refl, ap, subst, cond, if◌then◌else◌, ◌==◌, nat_eq}
use Rattle.std.specs.declared.result.Result.{Result}
use Rattle.std.specs.FinSet as set
use Rattle.tt_sgf.specs.declared.nodes.Node.{Node}
use Rattle.tt_sgf.specs.laws.SizeLaws.{point_count_is_bounded}
use Rattle.tt_sgf.specs.PointLists.{set_of}
use Rattle.tt_sgf.specs.Sizes.{point_count}
use Rattle.tt_board.specs.declared.Colour.{Colour}
use Rattle.tt_board.specs.Stones.{PointNumberSet, any_empty}
use Rattle.tt_game.specs.declared.faults.GameFault.{GameFault}
use Rattle.tt_game.specs.declared.frame.Side.TheVariants.{Attacker, Defender}
use Rattle.tt_game.specs.declared.records.GameSoFar.{GameSoFar}
use Rattle.tt_game.specs.Game.{winner_of}
use Rattle.tt_game.specs.Games.{GameState}
use Rattle.tt_game.specs.Line.{LineWithUndo}
use Rattle.tt_game.specs.Faults.{least_with_entry, or_fault, read_set}
use Rattle.tt_game.specs.Nodes.{TR, has, values_of}
use Rattle.tt_game.specs.Problems.{posed_problem, problem_of, problem_if_stones, problem_if_targets_valid, read_region, problem_at_node, problem_at_targets}
use Rattle.tt_game.specs.Records.{and_then, at_node, empty_game_for_nodes, step_node}
use Rattle.tt_game.proofs.FaultLemmas.{none_empty}
use Rattle.tt_game.proofs.ProblemLemmas.{set_on_board}

-- nobody has won at it
abbrev IsOpen : LineWithUndo → Type 0
IsOpen p = winner_of p.frame p.state ≡ None

-- a step that came to something came to it from what the step before gave
pub step_made : {A B : Type 0} (r : Result A GameFault) (f : A → Result B GameFault) (y : B) → and_then r f ≡ Ok y → (x : A) × (r ≡ Ok x) × (f x ≡ Ok y)
step_made (Ok x) f y e = (x, refl, e)
step_made (Err c) f y e = let bad : Err c ≡ Ok y = e in cc

-- what a choice came to is one of the two
pub either : {A : Type 0} (b : Bool) (x y z : A) → cond b x y ≡ z → (x ≡ z) ⊎ (y ≡ z)
either true x y z e = inl e
either false x y z e = inr e

-- and which branch it took
pub choice : {A : Type 0} (b : Bool) (x y z : A) → cond b x y ≡ z → ((b ≡ true) × (x ≡ z)) ⊎ ((b ≡ false) × (y ≡ z))
choice true x y z e = inl (refl, e)
choice false x y z e = inr (refl, e)

-- what was to be there is there
pub there : {A : Type 0} (o : Option A) (e : GameFault) (x : A) → or_fault o e ≡ Ok x → o ≡ Some x
there None e x h = let bad : Err e ≡ Ok x = h in cc
there (Some y) e x h = let same : y ≡ x = cc in ap Some same

-- a problem whose targets all have a stone is open
open_with : (s : GameState) (region targets : PointNumberSet) (o : Result Colour GameFault) (q : LineWithUndo) → any_empty targets s.present ≡ false
    → and_then o (λ k. Ok (posed_problem s region targets k)) ≡ Ok q → IsOpen q
open_with s region targets (Err e) q full h = let bad : Err _ ≡ Ok q = h in cc
open_with s region targets (Ok k) q full h =
    let same : posed_problem s region targets k ≡ q = cc in
    let won : winner_of (posed_problem s region targets k).frame (posed_problem s region targets k).state ≡ None =
    ap (λ (b : Bool). if b then Some Attacker else (if 0 == 2 then Some Defender else None)) full in
    subst IsOpen same won

-- so is one whose targets are on the board, and none of them empty
open_stones : (r : GameSoFar) (region targets : PointNumberSet) (o : Option ℕ) (q : LineWithUndo) → (o ≡ None → any_empty targets r.game.present ≡ false)
    → problem_if_stones r region targets o ≡ Ok q → IsOpen q
open_stones r region targets None q full h = open_with r.game region targets _ q (full refl) h
open_stones r region targets (Some p) q full h = let bad : Err _ ≡ Ok q = h in cc

open_on : (r : GameSoFar) (region targets : PointNumberSet) (q : LineWithUndo) → ((p : ℕ) → set.contains targets p ≡ true → p < point_count r.game.size)
    → problem_if_targets_valid r region targets ≡ Ok q → IsOpen q
open_on r region targets q on_board h = elim (either (nat_eq (set.len targets) 0) _ _ _ h) [
  | inl none ↦ let bad : Err _ ≡ Ok q = none in cc
  | inr some ↦ open_stones r region targets (least_with_entry targets r.game.present None) q
      (none_empty r.game.size targets r.game.present (point_count_is_bounded r.game.size) on_board) some
]

-- and one that a node poses
open_at : (r : GameSoFar) (n : Node) (q : LineWithUndo) → problem_at_node r n ≡ Ok q → IsOpen q
open_at r n q h =
    let targets = step_made (read_set r.node r.game.size TR n) _ q h in
    let region = step_made (read_region r.node r.game.size n) _ q targets.2 in
    let named : set_of r.game.size (values_of TR n.props) ≡ Some targets.0 = there _ _ targets.0 targets.1 in
    open_on r region.0 targets.0 q (λ p. set_on_board r.game.size (values_of TR n.props) targets.0 p named) region.2

-- and one that nodes come to
open_nodes : (k : ℕ) (r : GameSoFar) (ns : List Node) (q : LineWithUndo) → problem_at_targets k r ns ≡ Ok q → IsOpen q
unfolding problem_at_targets
open_nodes k r [] q h = let bad : Err _ ≡ Ok q = h in cc
open_nodes k r (n ∷ ns) q h =
    let made = step_made (step_node (at_node (k + 1) r) n) _ q h in
    elim (either (has TR n) _ _ _ made.2) [
      | inl e ↦ open_at made.0 n q e
      | inr e ↦ open_nodes (k + 1) made.0 ns q e
    ]

-- nobody has won at a problem
pub problem_open : (ns : List Node) (q : LineWithUndo) → problem_of ns ≡ Ok q → winner_of q.frame q.state ≡ None
unfolding problem_of
problem_open ns q h = let made = step_made (empty_game_for_nodes ns) _ q h in open_nodes 0 made.0 ns q made.2
