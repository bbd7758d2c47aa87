-- What a step does to a child, it does to the node.
use Rattle.std.proofs.Common.{◌≡◌, ℕ, zero, suc, ◌+◌, ◌-◌, ◌<◌, List, [], ◌∷◌, length, get_or, Contains, set, refl, sym, ◌∙◌, ap, subst, arith}
use Rattle.std.proofs.lemmas.List.Elements.{Contains-get_or}
use Rattle.tt_game.specs.Turns.{legal_turns}
use Rattle.tt_sgf.specs.declared.size.Size.{Size}
use Rattle.tt_game.specs.declared.frame.Side.{Side}
use Rattle.tt_game.specs.declared.turns.Turn.{Turn}
use Rattle.tt_game.specs.declared.frame.Frame.{Frame}
use Rattle.tt_game.specs.Game.{State, after}
use Rattle.tt_proof.specs.Wins.{Wins}
use Rattle.tt_search.specs.PartialTree.{PartialTree, fresh, closed, expanded, more}
use Rattle.tt_search.specs.inside.Weight.{weight, weight_all}
use Rattle.tt_search.specs.Numbers.{IsUndecided}
use Rattle.tt_search.specs.MostProving.{index_of_best, most_proving_state, state_below, most_proving_depth, depth_below, with_most_proving, with_leaf_below}
use Rattle.tt_search.specs.Growing.{expansion, IsPartialTree, ArePartialTrees}
use Rattle.tt_search.specs.inside.Within.{StaysWithin, AllStayWithin}
use Rattle.tt_search.specs.inside.Walking.{Stand, stage, stand_after, MayGrow}
use Rattle.tt_search.specs.inside.Taken.{Taken}
use Rattle.tt_search.specs.inside.Children.{children_of}
use Rattle.tt_search.proofs.Best.{best_child}
use Rattle.tt_search.specs.declared.limits.Step.{Step}
use Rattle.tt_search.specs.declared.limits.Step.TheVariants.{Expanded, Closed, Settled, Stuck}
use Rattle.tt_search.specs.declared.limits.Reason.TheVariants.{Budget, Depth, Total, Memory}

-- there are as many turns as children
pub lengths : (f : Frame) (s : State) (turns : List Turn) (trees : List PartialTree) → ArePartialTrees f s turns (children_of trees) → length turns ≡ length trees
lengths f s [] [] h = refl
lengths f s [] (tree ∷ trees) h = absurd h
lengths f s (t ∷ turns) [] h = absurd h
lengths f s (t ∷ turns) (tree ∷ trees) h = ap suc (lengths f s turns trees h.1)

-- the child at an index is a partial tree of the state after the turn there
pub partial_at : (f : Frame) (s : State) (turns : List Turn) (trees : List PartialTree) (i : ℕ) (t : Turn) (d : PartialTree) → ArePartialTrees f s turns (children_of trees)
    → i < length trees → IsPartialTree f (after f s (get_or turns i t)) (get_or trees i d)
partial_at f s [] [] i t d h l = absurd (omega arith)
partial_at f s [] (tree ∷ trees) i t d h l = absurd h
partial_at f s (u ∷ turns) [] i t d h l = absurd h
partial_at f s (u ∷ turns) (tree ∷ trees) zero t d h l = h.0
partial_at f s (u ∷ turns) (tree ∷ trees) (suc i) t d h l = partial_at f s turns trees i t d h.1 (omega arith)

-- below a child's index, the state at the most-proving leaf is that of the child
state_at : (f : Frame) (s : State) (turns : List Turn) (trees : List PartialTree) (i : ℕ) (t : Turn) (d : PartialTree) → length turns ≡ length trees → i < length trees
    → state_below f s turns i (children_of trees) ≡ most_proving_state f (after f s (get_or turns i t)) (get_or trees i d)
state_at f s [] [] i t d h l = absurd (omega arith)
state_at f s [] (tree ∷ trees) i t d h l = absurd (omega arith)
state_at f s (u ∷ turns) [] i t d h l = absurd (omega arith)
state_at f s (u ∷ turns) (tree ∷ trees) zero t d h l = refl
state_at f s (u ∷ turns) (tree ∷ trees) (suc i) t d h l = state_at f s turns trees i t d (omega arith) (omega arith)

-- and the leaf's depth is that of the child
depth_at : (trees : List PartialTree) (i : ℕ) (d : PartialTree) → i < length trees → depth_below i (children_of trees) ≡ most_proving_depth (get_or trees i d)
depth_at [] i d l = absurd (omega arith)
depth_at (tree ∷ trees) zero d l = refl
depth_at (tree ∷ trees) (suc i) d l = depth_at trees i d (omega arith)

-- a tree put at the leaf below a child's index is put at the child's most-proving leaf
put_at : (leaf : PartialTree) (trees : List PartialTree) (i : ℕ) (d : PartialTree) → i < length trees
    → with_leaf_below leaf i (children_of trees) ≡ children_of (set trees i (with_most_proving leaf (get_or trees i d)))
put_at leaf [] i d l = absurd (omega arith)
put_at leaf (tree ∷ trees) zero d l = refl
put_at leaf (tree ∷ trees) (suc i) d l = ap (more tree) (put_at leaf trees i d (omega arith))

-- a list with its own item put at an index is the list
set_at : (trees : List PartialTree) (i : ℕ) (d : PartialTree) → i < length trees → set trees i (get_or trees i d) ≡ trees
set_at [] i d l = refl
set_at (tree ∷ trees) zero d l = refl
set_at (tree ∷ trees) (suc i) d l = ap (λ ts. tree ∷ ts) (set_at trees i d (omega arith))

-- where all children stay within a room, so does the child at an index
pub stays_at : (size : Size) (room : ℕ) (trees : List PartialTree) (i : ℕ) (d : PartialTree) → AllStayWithin size room (children_of trees) → i < length trees → StaysWithin size room (get_or trees i d)
stays_at size room [] i d f l = absurd (omega arith)
stays_at size room (tree ∷ trees) zero d f l = f.0
stays_at size room (tree ∷ trees) (suc i) d f l = stays_at size room trees i d f.1 (omega arith)

-- a child weighs less than all children
pub weight_at : (trees : List PartialTree) (i : ℕ) (d : PartialTree) → i < length trees → weight (get_or trees i d) < weight_all (children_of trees)
weight_at [] i d l = absurd (omega arith)
weight_at (tree ∷ trees) zero d l = omega arith
weight_at (tree ∷ trees) (suc i) d l = omega (arith, weight_at trees i d (omega arith))

-- what a step does at the best child, it does at the node
module _ (at : Stand) (mover : Side) (turns : List Turn) (trees : List PartialTree) (t : Turn) (d : PartialTree) (same : length turns ≡ length trees)
    (there : index_of_best mover (children_of trees) < length trees) where
  abbrev pub node : PartialTree
  node = expanded mover turns (children_of trees)

  abbrev pub index : ℕ
  index = index_of_best mover (children_of trees)

  abbrev pub child : PartialTree
  child = get_or trees index d

  abbrev pub below : Stand
  below = stand_after at (get_or turns index t)

  -- the node's most-proving leaf has the state of the child's
  leaf_state_is : most_proving_state at.frame at.state node ≡ most_proving_state below.frame below.state child
  leaf_state_is = state_at at.frame at.state turns trees index t d same there

  -- it lies one turn deeper than the child's
  leaf_depth_is : most_proving_depth node ≡ most_proving_depth child + 1
  leaf_depth_is = ap (λ n. n + 1) (depth_at trees index d there)

  -- a tree put at the node's most-proving leaf is put at the child's
  put_is : (leaf : PartialTree) → with_most_proving leaf node ≡ expanded mover turns (children_of (set trees index (with_most_proving leaf child)))
  put_is leaf = ap (expanded mover turns) (put_at leaf trees index d there)

  -- where the child stays the same, so does the node
  same_is : (new : PartialTree) → new ≡ child → expanded mover turns (children_of (set trees index new)) ≡ node
  same_is new e =
      ap (λ n. expanded mover turns (children_of (set trees index n))) e
      ∙ ap (λ ts. expanded mover turns (children_of ts)) (set_at trees index d there)

  -- a step at the best child is one at the node
  pub lifted : (left : ℕ) (step : Step) (new : PartialTree) → 0 < at.room → Taken below (stage child left) step new
      → Taken at (stage node left) step (expanded mover turns (children_of (set trees index new)))
  lifted left Expanded new pos h = (
    h.0,
    (
      omega (arith, h.1.0, leaf_depth_is),
      rw leaf_state_is
          (ap (λ n. expanded mover turns (children_of (set trees index n))) h.1.1 ∙ sym (put_is (expansion at.frame (most_proving_state below.frame below.state child)))),
    ),
  )
  lifted left Closed new pos (side, strategy, w, o, l, e) = (
    side,
    strategy,
    subst (Wins side at.frame strategy) (sym leaf_state_is) w,
    o,
    omega (arith, l, leaf_depth_is),
    ap (λ n. expanded mover turns (children_of (set trees index n))) e ∙ sym (put_is (closed side strategy)),
  )
  lifted left Settled new pos h = h
  lifted left (Stuck Budget) new pos h = (h.0, same_is new h.1)
  lifted left (Stuck Depth) new pos h = (h.0, omega (arith, h.1, leaf_depth_is), same_is new h.2)
  lifted left (Stuck Total) new pos h = (h.0, omega (arith, h.1, leaf_depth_is), same_is new h.2)
  lifted left (Stuck Memory) new pos h = same_is new h

-- what is known at an undecided node of the index of its best child
pub record IsFound (at : Stand) (turns : List Turn) (trees : List PartialTree) (p : ℕ) : Type 0 where
  pub in_turns : p < length turns
  pub in_trees : p < length trees
  pub room : 0 < at.room
  pub legal : (t : Turn) → t ≡ get_or turns p t → Contains (legal_turns at.frame at.state) t
  pub child : (t : Turn) (child : PartialTree) → t ≡ get_or turns p t → child ≡ get_or trees p child → MayGrow (stand_after at t) child

-- so it is at the index of the best child of a node that may grow
pub found : (at : Stand) (mover : Side) (turns : List Turn) (trees : List PartialTree) → MayGrow at (expanded mover turns (children_of trees))
    → IsFound at turns trees (index_of_best mover (children_of trees))
found at mover turns trees m = record {
  in_turns = in_turns;
  in_trees = in_trees;
  room = m.stays.0;
  legal = λ t g. subst (λ ts. Contains ts t) m.partial.2 (subst (Contains turns) (sym g) (Contains-get_or turns p t in_turns));
  child = λ t child g h. record {
    undecided = subst IsUndecided (sym h) (best_child mover turns trees child m.undecided).1;
    partial =
        subst (λ x. IsPartialTree at.frame (after at.frame at.state x) child) (sym g)
        (subst (IsPartialTree at.frame (after at.frame at.state (get_or turns p t))) (sym h) (partial_at at.frame at.state turns trees p t child m.partial.3 in_trees));
    stays = subst (StaysWithin at.frame.size (at.room - 1)) (sym h) (stays_at at.frame.size (at.room - 1) trees p child m.stays.1 in_trees);
  };
}
  where
    p : ℕ
    p = index_of_best mover (children_of trees)

    in_trees : p < length trees
    in_trees = (best_child mover turns trees fresh m.undecided).0

    in_turns : p < length turns
    in_turns = omega (arith, in_trees, lengths at.frame at.state turns trees m.partial.3)
