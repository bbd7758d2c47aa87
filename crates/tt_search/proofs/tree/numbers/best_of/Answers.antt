use Rattle.std.proofs.Common.{rules, ◌≡◌, ◌∙◌, ℕ, ◌+◌, ◌<◌, ◌≤◌, min, List, ◌∷◌, length, get_or, drop, refl, sym, ap, arith}
use Rattle.std.proofs.lemmas.List.{at_drop_more}
use Rattle.tt_game.specs.declared.frame.Side.{Side}
use Rattle.tt_search.specs.PartialTree.{PartialTree}
use Rattle.tt_search.specs.inside.Children.{children_of}
use Rattle.tt_search.specs.Numbers.{number, child_numbers, least}
use Rattle.tt_search.specs.inside.Edges.{edge_state_of, tree_of, edge_trees, grown_behind, counted}
use Rattle.tt_search.specs.declared.tree.edges.Edge.{Edge}
use Rattle.tt_search.proofs.Indices.{rank_next, counted_most, whole_behind}
use Rattle.tt_search.proofs.Rows.{least_le, best_from, best_from_start, best_from_less, best_from_least, best_from_same}
use Rattle.tt_search.proofs.tree.numbers.best_of.Goals.{then-number-least, else-number-least}
use Rattle.tt_search.proofs.tree.numbers.best_of.Goals as goal

abbrev first : Edge
first = record { code = 0 }

-- the child at an index, and the children behind it
module _ (mover : Side) (es : List Edge) (rest behind : List PartialTree) (i x : ℕ) (l : i < length es) (is : x ≡ number mover (tree_of (edge_state_of (get_or es i first)) rest))
    (b : behind ≡ grown_behind (edge_state_of (get_or es i first)) rest) (p v : ℕ) where
  abbrev row : List PartialTree → List ℕ
  row us = child_numbers mover (children_of (edge_trees (drop (i + 1) es) us))

  -- what is known so far and the child's number and those behind give what the children from the index on give
  here : best_from p v i (x ∷ row behind) ≡ best_from p v i (child_numbers mover (children_of (edge_trees (drop i es) rest)))
  here =
      ap (λ y. best_from p v i (y ∷ row behind)) is
      ∙ ap (λ us. best_from p v i (number mover (tree_of (edge_state_of (get_or es i first)) rest) ∷ row us)) b
      ∙ sym (at_drop_more (λ xs. best_from p v i (child_numbers mover (children_of (edge_trees xs rest)))) es i first l)

  -- the least from the index on is that of the child's number and of those behind
  least_here : least (child_numbers mover (children_of (edge_trees (drop i es) rest))) ≡ min x (least (row behind))
  least_here =
      at_drop_more (λ xs. least (child_numbers mover (children_of (edge_trees xs rest)))) es i first l
      ∙ ap (λ us. least (number mover (tree_of (edge_state_of (get_or es i first)) rest) ∷ row us)) (sym b)
      ∙ ap (λ y. least (y ∷ row behind)) (sym is)

  -- a child with a lesser number is the best one so far
  less : x < v → best_from i x (i + 1) (row behind) ≡ best_from p v i (child_numbers mover (children_of (edge_trees (drop i es) rest)))
  less h = best_from_less p v i x (row behind) h ∙ here

  -- another child leaves the best one so far
  same : v ≤ x → best_from p v (i + 1) (row behind) ≡ best_from p v i (child_numbers mover (children_of (edge_trees (drop i es) rest)))
  same h = best_from_same p v i x (row behind) h ∙ here

  -- a child whose number none is below, where those looked at are above it, is the first with the least
  ends : (from m : ℕ) → x ≤ from → from < v → from ≤ m → min v (least (child_numbers mover (children_of (edge_trees (drop i es) rest)))) ≡ m
      → (i ≡ best_from p v i (child_numbers mover (children_of (edge_trees (drop i es) rest)))) × (x ≡ m)
  ends from m low high bound is_least =
      let lowest : x ≤ least (row behind) = omega (arith, low, high, bound, is_least, least_here) in
      (sym (best_from_least i x (i + 1) (row behind) lowest) ∙ less (omega (arith, low, high)), omega (arith, low, high, bound, is_least, least_here))

pub returns-then-number-from-clause-index : goal.returns-then-number-from-clause-index
returns-then-number-from-clause-index c =
    let is = c.number-number.ensures ∙ ap (number c.args.mover) c.split_first_child.ensures.child in
    (ends c.args.mover c.args.edges.now c.loop-i.rest.now c.split_first_child.result.1.now c.loop-i.i c.number-number.result c.loop-i-test.true is c.split_first_child.ensures.behind
    c.loop-i.index c.loop-i.least c.args.from _ c.if-number-from.true c.loop-i.invariant.higher c.requires.lowest c.loop-i.invariant.least).0 ∙ c.loop-i.invariant.index

pub returns-then-number-from-clause-least : goal.returns-then-number-from-clause-least
returns-then-number-from-clause-least c =
    let is = c.number-number.ensures ∙ ap (number c.args.mover) c.split_first_child.ensures.child in
    (ends c.args.mover c.args.edges.now c.loop-i.rest.now c.split_first_child.result.1.now c.loop-i.i c.number-number.result c.loop-i-test.true is c.split_first_child.ensures.behind
    c.loop-i.index c.loop-i.least c.args.from _ c.if-number-from.true c.loop-i.invariant.higher c.requires.lowest c.loop-i.invariant.least).1

pub loop-i-init : goal.loop-i-init
loop-i-init c = record {
  most = omega arith;
  higher = c.requires.finite;
  index = best_from_start c.args.mover (children_of (edge_trees c.args.edges.now c.args.grown.now));
  least = omega (arith, least_le (child_numbers c.args.mover (children_of (edge_trees c.args.edges.now c.args.grown.now))));
  looked_at = omega arith;
  few = omega arith;
  fewer = omega arith;
  passed = refl;
  rank = refl;
  whole = c.requires.whole;
}

pub loop-i-preserved : goal.loop-i-preserved
loop-i-preserved c =
    let e : Edge = get_or c.args.edges.now c.loop-i.i first in
    let is = c.number-number.ensures ∙ ap (number c.args.mover) c.split_first_child.ensures.child in
    let least = least_here c.args.mover c.args.edges.now c.loop-i.rest.now c.split_first_child.result.1.now c.loop-i.i c.number-number.result c.loop-i-test.true is
    c.split_first_child.ensures.behind c.loop-i.index c.loop-i.least in
    record {
      most = search rules;
      higher = elim c.if-number-least.branch [
        | then-number-least w ↦ omega (arith, w.least-is, c.if-number-from.false)
        | else-number-least w ↦ omega (arith, w.least-is, c.loop-i.invariant.higher)
      ];
      index = elim c.if-number-least.branch [
        | then-number-least w ↦
            rw (w.index-is, w.least-is)
            (less c.args.mover c.args.edges.now c.loop-i.rest.now c.split_first_child.result.1.now c.loop-i.i c.number-number.result c.loop-i-test.true is
            c.split_first_child.ensures.behind c.loop-i.index c.loop-i.least w.if-number-least.true ∙ c.loop-i.invariant.index)
        | else-number-least w ↦
            rw (w.index-is, w.least-is)
            (same c.args.mover c.args.edges.now c.loop-i.rest.now c.split_first_child.result.1.now c.loop-i.i c.number-number.result c.loop-i-test.true is
            c.split_first_child.ensures.behind c.loop-i.index c.loop-i.least w.if-number-least.false ∙ c.loop-i.invariant.index)
      ];
      least = elim c.if-number-least.branch [
        | then-number-least w ↦ omega (arith, w.least-is, w.if-number-least.true, least, c.loop-i.invariant.least)
        | else-number-least w ↦ omega (arith, w.least-is, w.if-number-least.false, least, c.loop-i.invariant.least)
      ];
      looked_at = elim c.if-number-least.branch [ then-number-least w ↦ search rules | else-number-least w ↦ search rules ];
      few = omega (arith, c.plus_one_if_grown-passed.ensures, counted_most (edge_state_of e) c.loop-i.passed, c.loop-i.invariant.few);
      fewer = elim c.if-number-least.branch [ then-number-least w ↦ search rules | else-number-least w ↦ search rules ];
      passed = c.plus_one_if_grown-passed.ensures ∙ ap (counted (edge_state_of e)) c.loop-i.invariant.passed ∙ sym (rank_next c.args.edges.now c.loop-i.i first c.loop-i-test.true);
      rank = elim c.if-number-least.branch [ then-number-least w ↦ search rules | else-number-least w ↦ search rules ];
      whole = whole_behind c.args.edges.now c.loop-i.rest.now c.loop-i.i first c.loop-i-test.true c.loop-i.invariant.whole ∙ ap length (sym c.split_first_child.ensures.behind);
    }
