-- A tree is settled for one side at most.
use Rattle.std.proofs.Common.{◌≡◌, ℕ, zero, suc, ◌+◌, ◌<◌, List, [], ◌∷◌, length, get_or, drop, refl, ◌∙◌, ap, subst, arith}
use Rattle.std.proofs.lemmas.List.{at_drop_more}
use Rattle.tt_game.specs.declared.frame.Side.{Side}
use Rattle.tt_game.specs.declared.frame.Side.TheVariants.{Attacker, Defender}
use Rattle.tt_proof.specs.ProofClaim.{ProofClaim}
use Rattle.tt_search.specs.PartialTree.{PartialTree, fresh, won, closed, expanded, Children, no_more, more}
use Rattle.tt_search.specs.Numbers.{number, child_numbers}
use Rattle.tt_search.specs.inside.Children.{children_of}
use Rattle.tt_search.specs.inside.Edges.{edge_state_of, tree_of, edge_trees, grown_behind}
use Rattle.tt_search.specs.Settled.{first_settled_index, strategy_for}
use Rattle.tt_search.specs.inside.Choices.{node_with}
use Rattle.tt_search.specs.inside.ChildNodes.{choices_of}
use Rattle.tt_search.specs.inside.Offered.{IsOffered}
use Rattle.tt_search.specs.inside.Joining.{AreZero}
use Rattle.tt_search.specs.declared.tree.edges.Edge.{Edge}
use Rattle.tt_search.specs.declared.tree.children.ChildNodes.{ChildNodes}
use Rattle.tt_search.proofs.Strategies.{IsZeroAt, zero_at, all_zero, zero_sum}

mutual
  -- not for both
  never_both : (tree : PartialTree) → number Attacker tree ≡ 0 → number Defender tree ≡ 0 → ⊥
  never_both fresh h k = omega (arith, h)
  never_both (won Attacker) h k = omega (arith, k)
  never_both (won Defender) h k = omega (arith, h)
  never_both (closed Attacker strategy) h k = omega (arith, k)
  never_both (closed Defender strategy) h k = omega (arith, h)
  never_both (expanded Attacker turns children) h k =
      never_attacked (first_settled_index Attacker children) children (zero_at Attacker children h) (all_zero Defender children (zero_sum (child_numbers Defender children) k))
  never_both (expanded Defender turns children) h k =
      never_defended (first_settled_index Defender children) children (zero_at Defender children k) (all_zero Attacker children (zero_sum (child_numbers Attacker children) h))

  -- so no child is settled for the attacker where all are for the defender
  never_attacked : (i : ℕ) (children : Children) → IsZeroAt Attacker i children → AreZero Defender children → ⊥
  never_attacked i no_more z all = z
  never_attacked zero (more tree children) z all = never_both tree z all.0
  never_attacked (suc i) (more tree children) z all = never_attacked i children z all.1

  -- nor the other way round
  never_defended : (i : ℕ) (children : Children) → IsZeroAt Defender i children → AreZero Attacker children → ⊥
  never_defended i no_more z all = z
  never_defended zero (more tree children) z all = never_both tree all.0 z
  never_defended (suc i) (more tree children) z all = never_defended i children z all.1

-- sides for which a tree is settled are one
pub one_side : (a b : Side) (tree : PartialTree) → number a tree ≡ 0 → number b tree ≡ 0 → a ≡ b
one_side Attacker Attacker tree h k = refl
one_side Attacker Defender tree h k = absurd (never_both tree h k)
one_side Defender Attacker tree h k = absurd (never_both tree k h)
one_side Defender Defender tree h k = refl

-- the first of these children, and those behind it
pub zero_step : (side : Side) (es : List Edge) (rest : List PartialTree) (i : ℕ) (e : Edge) → i < length es → AreZero side (children_of (edge_trees (drop i es) rest))
    → (number side (tree_of (edge_state_of (get_or es i e)) rest) ≡ 0) × AreZero side (children_of (edge_trees (drop (i + 1) es) (grown_behind (edge_state_of (get_or es i e)) rest)))
zero_step side es rest i e l h = subst (λ xs. AreZero side (children_of (edge_trees xs rest))) (at_drop_more (λ (xs : List Edge). xs) es i e l) h

-- a child with the number 0 at the index, where the children are a list
pub zero_there : (side : Side) (trees : List PartialTree) (i : ℕ) (d : PartialTree) → IsZeroAt side i (children_of trees) → number side (get_or trees i d) ≡ 0
zero_there side [] i d z = absurd z
zero_there side (tree ∷ trees) zero d z = z
zero_there side (tree ∷ trees) (suc i) d z = zero_there side trees i d z

-- the proof that a node has offered is the side's for which the node is settled, and has its strategy
pub offered_for : (mover : Side) (children : ChildNodes) (p : ProofClaim) (side : Side) (tree : PartialTree) → IsOffered mover children p
    → node_with (choices_of mover children) ≡ tree → number side tree ≡ 0 → (p.side ≡ side) × (p.tree ≡ strategy_for side tree)
offered_for mover children p side tree h is z =
    let same : p.side ≡ side = one_side p.side side tree (subst (λ t. number p.side t ≡ 0) is h.proof.settled) z in
    (same, h.proof.strategy ∙ ap (λ s. strategy_for s (node_with (choices_of mover children))) same ∙ ap (strategy_for side) is)
