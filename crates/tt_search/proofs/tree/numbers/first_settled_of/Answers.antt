use Rattle.std.proofs.Common.{◌≡◌, ◌≢◌, ◌∙◌, ℕ, ◌+◌, ◌<◌, List, ◌∷◌, length, get_or, drop, sym, ap, arith}
use Rattle.std.proofs.lemmas.List.{at_drop_more}
use Rattle.std.proofs.lemmas.Grind.{common_steps}
use Rattle.tt_game.specs.declared.frame.Side.{Side}
use Rattle.tt_search.specs.PartialTree.{PartialTree}
use Rattle.tt_search.specs.inside.Children.{children_of}
use Rattle.tt_search.specs.Numbers.{number, child_numbers}
use Rattle.tt_search.specs.MostProving.{first_index_of}
use Rattle.tt_search.specs.inside.Edges.{edge_state_of, tree_of, edge_trees, grown_behind, counted}
use Rattle.tt_search.specs.declared.tree.edges.Edge.{Edge}
use Rattle.tt_search.proofs.Indices.{rank_next, counted_most, whole_behind}
use Rattle.tt_search.proofs.tree.numbers.first_settled_of.Goals as goal

abbrev first : Edge
first = record { code = 0 }

-- behind a number that isn't 0, the index of the first 0 is one more than among the others
index_past : (i x : ℕ) (xs : List ℕ) → x ≢ 0 → i + 1 + first_index_of 0 xs ≡ i + first_index_of 0 (x ∷ xs)
index_past i x xs h = grind (arith, common_steps)

-- the child at an index isn't settled: so the first one that is, is found behind it
module _ (side : Side) (es : List Edge) (rest behind : List PartialTree) (i x : ℕ) (l : i < length es) (is : x ≡ number side (tree_of (edge_state_of (get_or es i first)) rest))
    (b : behind ≡ grown_behind (edge_state_of (get_or es i first)) rest) where
  abbrev row : List PartialTree → List ℕ
  row us = child_numbers side (children_of (edge_trees (drop (i + 1) es) us))

  -- the first child that is settled, looked for from this one on, is the first one looked for from the next one on
  past : x ≢ 0 → i + 1 + first_index_of 0 (row behind) ≡ i + first_index_of 0 (child_numbers side (children_of (edge_trees (drop i es) rest)))
  past h =
      index_past i x (row behind) h
      ∙ ap (λ y. i + first_index_of 0 (y ∷ row behind)) is
      ∙ ap (λ us. i + first_index_of 0 (number side (tree_of (edge_state_of (get_or es i first)) rest) ∷ row us)) b
      ∙ sym (at_drop_more (λ xs. i + first_index_of 0 (child_numbers side (children_of (edge_trees xs rest)))) es i first l)

pub loop-i-preserved : goal.loop-i-preserved
loop-i-preserved c =
    let e : Edge = get_or c.args.edges.now c.loop-i.i first in
    let is = c.number.ensures ∙ ap (number c.args.side) c.split_first_child.ensures.child in
    record {
      index =
          past c.args.side c.args.edges.now c.loop-i.rest.now c.split_first_child.result.1.now c.loop-i.i c.number.result c.loop-i-test.true is
          c.split_first_child.ensures.behind c.if-number-eq0.false ∙ c.loop-i.invariant.index;
      few = omega (arith, c.plus_one_if_grown-rank.ensures, counted_most (edge_state_of e) c.loop-i.rank, c.loop-i.invariant.few);
      rank = c.plus_one_if_grown-rank.ensures ∙ ap (counted (edge_state_of e)) c.loop-i.invariant.rank ∙ sym (rank_next c.args.edges.now c.loop-i.i first c.loop-i-test.true);
      whole = whole_behind c.args.edges.now c.loop-i.rest.now c.loop-i.i first c.loop-i-test.true c.loop-i.invariant.whole ∙ ap length (sym c.split_first_child.ensures.behind);
    }
