-- What growing keeps.
use Rattle.std.proofs.Common.{◌≡◌, ℕ, zero, suc, ◌+◌, ◌-◌, ◌<◌, List, [], ◌∷◌, Option, Some, None, length, get_or, refl, ap, subst, arith}
use Rattle.tt_game.specs.declared.frame.Side.{Side}
use Rattle.tt_game.specs.declared.frame.Side.TheVariants.{Attacker, Defender}
use Rattle.tt_game.specs.declared.frame.Frame.{Frame}
use Rattle.tt_game.specs.declared.turns.Turn.{Turn}
use Rattle.tt_game.specs.Game.{State, after, winner_of}
use Rattle.tt_proof.specs.Strategy.{Strategy}
use Rattle.tt_search.specs.PartialTree.{PartialTree, fresh, won, closed, expanded, Children, no_more, more}
use Rattle.tt_sgf.specs.declared.size.Size.{Size}
use Rattle.tt_game.specs.Turns.{legal_turns}
use Rattle.tt_search.specs.Numbers.{count, expanded_in_children, IsUndecided}
use Rattle.tt_search.specs.MostProving.{index_of_best, most_proving_state, state_below, most_proving_depth, depth_below, with_most_proving, with_leaf_below}
use Rattle.tt_search.specs.Growing.{leaf_with_winner, new_leaf, new_leaves, expansion, IsPartialTree, ArePartialTrees}
use Rattle.tt_search.specs.inside.Within.{StaysWithin, AllStayWithin}
use Rattle.tt_search.specs.inside.Children.{children_of}
use Rattle.tt_search.proofs.Best.{best_child}

-- a won leaf is decided
pub won_decided : (side : Side) → IsUndecided (won side) → ⊥
won_decided Attacker u = u.0 refl
won_decided Defender u = u.1 refl

-- so is a closed leaf
pub closed_decided : (side : Side) (tree : Strategy) → IsUndecided (closed side tree) → ⊥
closed_decided Attacker tree u = u.0 refl
closed_decided Defender tree u = u.1 refl

-- the child at the index is there and undecided
abbrev pub UndecidedAt : ℕ → Children → Type 0
UndecidedAt i no_more = ⊥
UndecidedAt zero (more tree children) = IsUndecided tree
UndecidedAt (suc i) (more tree children) = UndecidedAt i children

-- children as a list
trees_by_turn : Children → List PartialTree
trees_by_turn no_more = []
trees_by_turn (more tree children) = tree ∷ trees_by_turn children

-- a list of the children makes the same children
children_of-trees_by_turn : (children : Children) → children_of (trees_by_turn children) ≡ children
unfolding trees_by_turn
children_of-trees_by_turn no_more = refl
children_of-trees_by_turn (more tree children) = ap (more tree) (children_of-trees_by_turn children)

-- what is undecided at an index in the list is undecided among the children
undecided_at : (trees : List PartialTree) (i : ℕ) (d : PartialTree) → i < length trees → IsUndecided (get_or trees i d) → UndecidedAt i (children_of trees)
undecided_at [] i d l u = absurd (omega arith)
undecided_at (tree ∷ trees) zero d l u = u
undecided_at (tree ∷ trees) (suc i) d l u = undecided_at trees i d (omega arith) u

-- the best child of an undecided node is there and undecided
pub best_undecided : (mover : Side) (turns : List Turn) (children : Children) → IsUndecided (expanded mover turns children) → UndecidedAt (index_of_best mover children) children
best_undecided mover turns children u = subst (λ r. IsUndecided (expanded mover turns r) → UndecidedAt (index_of_best mover r) r) (children_of-trees_by_turn children)
    (λ v. undecided_at (trees_by_turn children) (index_of_best mover (children_of (trees_by_turn children))) fresh (best_child mover turns (trees_by_turn children) fresh v).0
    (best_child mover turns (trees_by_turn children) fresh v).1) u

mutual
  -- a tree at the most-proving leaf of an undecided one adds its expanded nodes to the count
  pub count_grown : (leaf tree : PartialTree) → IsUndecided tree → count (with_most_proving leaf tree) ≡ count tree + count leaf
  count_grown leaf fresh u = omega arith
  count_grown leaf (won side) u = absurd (won_decided side u)
  count_grown leaf (closed side tree) u = absurd (closed_decided side tree u)
  count_grown leaf (expanded mover turns children) u = omega (arith, count_all_grown leaf (index_of_best mover children) children (best_undecided mover turns children u))

  -- so it does below an undecided child
  count_all_grown : (leaf : PartialTree) (i : ℕ) (children : Children) → UndecidedAt i children → expanded_in_children (with_leaf_below leaf i children) ≡ expanded_in_children children + count leaf
  count_all_grown leaf i no_more u = absurd u
  count_all_grown leaf zero (more tree children) u = omega (arith, count_grown leaf tree u)
  count_all_grown leaf (suc i) (more tree children) u = omega (arith, count_all_grown leaf i children u)

mutual
  -- nobody has won at the most-proving leaf of an undecided tree
  pub leaf_open : (f : Frame) (s : State) (tree : PartialTree) → IsPartialTree f s tree → IsUndecided tree → winner_of f (most_proving_state f s tree) ≡ None
  leaf_open f s fresh p u = p
  leaf_open f s (won side) p u = absurd (won_decided side u)
  leaf_open f s (closed side tree) p u = absurd (closed_decided side tree u)
  leaf_open f s (expanded mover turns children) p u = row_open f s turns (index_of_best mover children) children p.3 (best_undecided mover turns children u)

  -- nor below the undecided child at the index
  row_open : (f : Frame) (s : State) (turns : List Turn) (i : ℕ) (children : Children) → ArePartialTrees f s turns children → UndecidedAt i children
      → winner_of f (state_below f s turns i children) ≡ None
  row_open f s [] i no_more p u = absurd u
  row_open f s [] i (more tree children) p u = absurd p
  row_open f s (t ∷ turns) i no_more p u = absurd p
  row_open f s (t ∷ turns) zero (more tree children) p u = leaf_open f (after f s t) tree p.0 u
  row_open f s (t ∷ turns) (suc i) (more tree children) p u = row_open f s turns i children p.1 u

mutual
  -- a partial tree stays one where its most-proving leaf becomes a partial tree of the state there
  pub partial_grown : (f : Frame) (s : State) (leaf tree : PartialTree) → IsPartialTree f s tree → IsPartialTree f (most_proving_state f s tree) leaf → IsPartialTree f s (with_most_proving leaf tree)
  partial_grown f s leaf fresh p l = l
  partial_grown f s leaf (won side) p l = l
  partial_grown f s leaf (closed side tree) p l = l
  partial_grown f s leaf (expanded mover turns children) p l = (p.0, p.1, p.2, row_partial_grown f s leaf turns (index_of_best mover children) children p.3 l)

  -- so do the children where that is done below one of them
  row_partial_grown : (f : Frame) (s : State) (leaf : PartialTree) (turns : List Turn) (i : ℕ) (children : Children) → ArePartialTrees f s turns children
      → IsPartialTree f (state_below f s turns i children) leaf → ArePartialTrees f s turns (with_leaf_below leaf i children)
  row_partial_grown f s leaf [] i no_more p l = tt
  row_partial_grown f s leaf [] i (more tree children) p l = absurd p
  row_partial_grown f s leaf (t ∷ turns) i no_more p l = absurd p
  row_partial_grown f s leaf (t ∷ turns) zero (more tree children) p l = (partial_grown f (after f s t) leaf tree p.0 l, p.1)
  row_partial_grown f s leaf (t ∷ turns) (suc i) (more tree children) p l = (p.0, row_partial_grown f s leaf turns i children p.1 l)

mutual
  -- a tree stays within its room where its most-proving leaf becomes one that stays within what is left there
  pub stays_grown : (size : Size) (room : ℕ) (leaf tree : PartialTree) → StaysWithin size room tree → StaysWithin size (room - most_proving_depth tree) leaf
      → StaysWithin size room (with_most_proving leaf tree)
  stays_grown size room leaf fresh f l = subst (λ n. StaysWithin size n leaf) (omega arith) l
  stays_grown size room leaf (won side) f l = subst (λ n. StaysWithin size n leaf) (omega arith) l
  stays_grown size room leaf (closed side tree) f l = subst (λ n. StaysWithin size n leaf) (omega arith) l
  stays_grown size room leaf (expanded mover turns children) f l = (
    f.0,
    row_stays_grown size (room - 1) leaf (index_of_best mover children) children f.1 (subst
        (λ n. StaysWithin size n leaf) (omega arith) l),
  )

  -- so do the children where that is done below one of them
  row_stays_grown : (size : Size) (room : ℕ) (leaf : PartialTree) (i : ℕ) (children : Children) → AllStayWithin size room children
      → StaysWithin size (room - depth_below i children) leaf → AllStayWithin size room (with_leaf_below leaf i children)
  row_stays_grown size room leaf i no_more f l = tt
  row_stays_grown size room leaf zero (more tree children) f l = (stays_grown size room leaf tree f.0 l, f.1)
  row_stays_grown size room leaf (suc i) (more tree children) f l = (f.0, row_stays_grown size room leaf i children f.1 l)

-- a leaf that says who has won is a partial tree
leaf_of_partial : (f : Frame) (s : State) (o : Option Side) → winner_of f s ≡ o → IsPartialTree f s (leaf_with_winner o)
leaf_of_partial f s None e = e
leaf_of_partial f s (Some side) e = e

-- so is a new leaf
pub new_leaf_partial : (f : Frame) (s : State) → IsPartialTree f s (new_leaf f s)
new_leaf_partial f s = leaf_of_partial f s (winner_of f s) refl

-- so are the new leaves of turns
new_leaves_partial : (f : Frame) (s : State) (turns : List Turn) → ArePartialTrees f s turns (new_leaves f s turns)
new_leaves_partial f s [] = tt
new_leaves_partial f s (t ∷ turns) = (new_leaf_partial f (after f s t), new_leaves_partial f s turns)

-- and so is an expansion, where nobody has won
pub expansion_partial : (f : Frame) (s : State) → winner_of f s ≡ None → IsPartialTree f s (expansion f s)
expansion_partial f s w = (w, refl, refl, new_leaves_partial f s (legal_turns f s))

-- a leaf that says who has won stays within any room
leaf_stays : (size : Size) (room : ℕ) (o : Option Side) → StaysWithin size room (leaf_with_winner o)
leaf_stays size room None = tt
leaf_stays size room (Some side) = tt

-- so do the new leaves of turns
new_leaves_stay : (size : Size) (room : ℕ) (f : Frame) (s : State) (turns : List Turn) → AllStayWithin size room (new_leaves f s turns)
new_leaves_stay size room f s [] = tt
new_leaves_stay size room f s (t ∷ turns) = (leaf_stays size room (winner_of f (after f s t)), new_leaves_stay size room f s turns)

-- an expansion stays within any room but 0
pub expansion_stays : (size : Size) (room : ℕ) (f : Frame) (s : State) → 0 < room → StaysWithin size room (expansion f s)
expansion_stays size room f s h = (h, new_leaves_stay size (room - 1) f s (legal_turns f s))

-- a leaf that says who has won has no expanded node
leaf_of_count : (o : Option Side) → count (leaf_with_winner o) ≡ 0
leaf_of_count None = refl
leaf_of_count (Some side) = refl

-- nor has a new leaf
pub new_leaf_count : (f : Frame) (s : State) → count (new_leaf f s) ≡ 0
new_leaf_count f s = leaf_of_count (winner_of f s)

-- nor have the new leaves of turns
new_leaves_count : (f : Frame) (s : State) (turns : List Turn) → expanded_in_children (new_leaves f s turns) ≡ 0
new_leaves_count f s [] = refl
new_leaves_count f s (t ∷ turns) = omega (arith, new_leaf_count f (after f s t), new_leaves_count f s turns)

-- an expansion has one expanded node
pub expansion_count : (f : Frame) (s : State) → count (expansion f s) ≡ 1
expansion_count f s = omega (arith, new_leaves_count f s (legal_turns f s))
