-- The way from an undecided node to its best child.
use Rattle.std.proofs.Common.{◌≡◌, ℕ, ◌<◌, ◌∷◌, length, get_or, refl, sym, ◌∙◌, ap, subst}
use Rattle.tt_game.specs.declared.turns.Turn.{Turn}
use Rattle.tt_game.specs.Game.{IsLegal, after}
use Rattle.tt_game.specs.laws.TurnLaws.{contains-legal_turns}
use Rattle.tt_search.specs.PartialTree.{PartialTree, fresh}
use Rattle.tt_search.specs.inside.Choices.{Choices, node_with, best_index, best_child, with_best}
use Rattle.tt_search.specs.inside.Walking.{Stand, stage, stand, stand_of, stand_after, MayGrow, IsDown}
use Rattle.tt_search.specs.inside.Steady.{AreStepsAt, AreSteps}
use Rattle.tt_search.specs.inside.ChildSteps.{BestSteps}
use Rattle.tt_search.specs.declared.limits.Step.{Step}
use Rattle.tt_search.specs.declared.descent.StopAfter.{StopAfter}
use Rattle.tt_search.specs.declared.descent.Descent.{Descent}
use Rattle.tt_search.proofs.Lifted.{IsFound, found, lengths}
use Rattle.tt_search.proofs.ChildSteps.{any_default}
use Rattle.tt_search.proofs.Steady.{steps_lifted}

-- what is known of the turn to the best child
pub record IsWayDown (at : Stand) (c : Choices) (node : PartialTree) (t : Turn) : Type 0 where
  pub legal : IsLegal at.frame at.state t
  pub may_grow : MayGrow (stand_after at t) (best_child c)
  pub steps : (stop : StopAfter) (left : ℕ) (step : Step) (tree : PartialTree) (left_after : ℕ) → AreStepsAt stop (stand_after at t) (stage (best_child c) left) step (stage tree left_after)
      → AreStepsAt stop at (stage node left) step (stage (node_with (with_best c tree)) left_after)

module _ (at : Stand) (c : Choices) (m : MayGrow at (node_with c)) where
  -- what is known of the best child's index
  found_here : IsFound at c.turns c.trees (best_index c)
  found_here = found at c.mover c.turns c.trees m

  -- the child is the tree at the index
  child_is : best_child c ≡ get_or c.trees (best_index c) (best_child c)
  child_is = any_default c.trees (best_index c) fresh (best_child c) found_here.in_trees

  -- the turn at the index leads down
  way_here : (t : Turn) → t ≡ get_or c.turns (best_index c) t → IsWayDown at c (node_with c) t
  way_here t is = record {
    legal = (contains-legal_turns at.frame at.state t).0 (found_here.legal t is);
    may_grow = found_here.child t (best_child c) is child_is;
    steps = λ stop left step tree left_after steps.
        steps_lifted at c.mover c.turns c.trees t (best_child c) (best_index c) refl found_here.in_trees (lengths at.frame at.state c.turns c.trees m.partial.3) is child_is
        found_here.room stop left step (stage tree left_after) steps;
  }

-- the same, from what the function knows of its node
module _ (at : Stand) (c : Choices) (node : PartialTree) (is : node_with c ≡ node) (m : MayGrow at node) where
  here : MayGrow at (node_with c)
  here = subst (MayGrow at) (sym is) m

  -- there is a turn at the index
  pub turn_there : best_index c < length c.turns
  turn_there = (found_here at c here).in_turns

  -- and a child
  pub child_there : best_index c < length c.trees
  child_there = (found_here at c here).in_trees

  -- there is room for a turn
  pub has_room : 0 < at.room
  has_room = (found_here at c here).room

  -- the turn at the index leads down
  pub way_down : (t : Turn) → t ≡ get_or c.turns (best_index c) t → IsWayDown at c node t
  way_down t turn = subst (λ n. IsWayDown at c n t) is (way_here at c here t turn)

-- a walk that has gone down stands where the turn leads
stand_down : (t : Turn) (old new : Descent) → IsDown t old new → stand_of new ≡ stand_after (stand_of old) t
stand_down t old new down =
    ap (λ l. stand l new.room) down.line
    ∙ ap (stand (record { frame = old.line.frame; state = after old.line.frame old.line.state t; before = old.line.state ∷ old.line.before })) down.room

-- the way down of a walk from a node
module _ (walk : Descent) (c : Choices) (node : PartialTree) (t : Turn) (way : IsWayDown (stand_of walk) c node t) (down : Descent) (gone : IsDown t walk down) where
  -- the child may grow where the walk stands now
  pub child_may_grow : MayGrow (stand_of down) (best_child c)
  child_may_grow = subst (λ at. MayGrow at (best_child c)) (sym (stand_down t walk down gone)) way.may_grow

  -- the steps below, as steps of the node, where the walk comes back up with what they left
  pub round_steps : (stop : StopAfter) (step : Step) (d : Choices) (deep up : Descent) → BestSteps stop down c step d deep → up.left ≡ deep.left → AreSteps stop walk node step (node_with d) up
  round_steps stop step d deep up (tree, below, put) l =
      let here = subst (λ at. AreStepsAt stop at (stage (best_child c) down.left) step (stage tree deep.left)) (stand_down t walk down gone) below in
      let steps = way.steps stop walk.left step tree deep.left
      (subst (λ n. AreStepsAt stop (stand_after (stand_of walk) t) (stage (best_child c) n) step (stage tree deep.left)) gone.left here) in
      subst (λ n. AreStepsAt stop (stand_of walk) (stage node walk.left) step (stage (node_with d) n)) (sym l)
      (subst (λ x. AreStepsAt stop (stand_of walk) (stage node walk.left) step (stage (node_with x) deep.left)) (sym put) steps)
