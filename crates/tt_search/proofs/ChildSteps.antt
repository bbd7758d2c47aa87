-- What steps at a child make of the children.
use Rattle.std.proofs.Common.{◌≡◌, ℕ, zero, suc, ◌<◌, ◌≤◌, List, [], ◌∷◌, None, length, get_or, set, take, drop, insert, remove, refl, sym, ◌∙◌, ap, subst, arith}
use Rattle.std.proofs.lemmas.List.Edits.{length-insert}
use Rattle.tt_game.specs.declared.frame.Side.{Side}
use Rattle.tt_game.specs.Game.{winner_of}
use Rattle.tt_search.specs.PartialTree.{PartialTree, fresh, won}
use Rattle.tt_search.specs.Numbers.{IsUndecided}
use Rattle.tt_search.specs.inside.Edges.{edge_turn, edge_state_of, edge_turns, edge_trees, tree_of, grown_in, child_at}
use Rattle.tt_search.specs.inside.ChildNodes.{HasItsNodes, child_of}
use Rattle.tt_search.specs.inside.Walking.{Stand, stage, stand_of}
use Rattle.tt_search.specs.inside.Taken.{Taken, IsLeft}
use Rattle.tt_search.specs.inside.Steady.{AreStepsAt}
use Rattle.tt_search.specs.inside.ChildSteps.{IsFreshAt, IsPut, FirstStepAt, StepsBelowAt, StepsBelow}
use Rattle.tt_search.specs.declared.tree.edges.Edge.{Edge}
use Rattle.tt_search.specs.declared.tree.edges.EdgeState.{EdgeState}
use Rattle.tt_search.specs.declared.tree.edges.EdgeState.TheVariants.{Fresh, Won, Grown}
use Rattle.tt_search.specs.declared.limits.Reason.{Reason}
use Rattle.tt_search.specs.declared.limits.Reason.TheVariants.{Budget, Depth, Total, Memory}
use Rattle.tt_search.specs.declared.limits.Step.{Step}
use Rattle.tt_search.specs.declared.limits.Step.TheVariants.{Expanded, Stuck}
use Rattle.tt_search.specs.declared.tree.children.ChildNodes.{ChildNodes}
use Rattle.tt_search.specs.declared.descent.StopAfter.{StopAfter}
use Rattle.tt_search.specs.declared.descent.Descent.{Descent}
use Rattle.tt_search.proofs.Grown.{won_decided}
use Rattle.tt_search.proofs.Steps.{IsOfferable, expansion_offerable}
use Rattle.tt_search.proofs.Indices.{fresh_there, fresh_tree, rank_within, same_turns, one_more, inserted_at_rank, grown_on, grown_at_index, rank_there, tree_at_index}

-- a stuck step leaves a fresh leaf fresh
stuck_fresh : (at : Stand) (left : ℕ) (reason : Reason) (tree : PartialTree) → Taken at (stage fresh left) (Stuck reason) tree → Taken at (stage fresh left) (Stuck reason) fresh
stuck_fresh at left Budget tree k = (k.0, refl)
stuck_fresh at left Depth tree k = (k.0, k.1, refl)
stuck_fresh at left Total tree k = (k.0, k.1, refl)
stuck_fresh at left Memory tree k = refl

-- a child that stays fresh changes nothing
put_nothing : (index : ℕ) (x y : ChildNodes) → IsFreshAt index x.edges → y.edges ≡ x.edges → y.grown.items ≡ x.grown.items → IsPut index x fresh y
put_nothing index x y there edges row = record {
  turns = ap edge_turns edges;
  trees = ap (λ es. edge_trees es y.grown.items) edges ∙ ap (edge_trees x.edges) row ∙ sym (fresh_tree x.edges x.grown.items index there);
}

-- where the step is stuck, nothing changes
pub stays_fresh : (walk after : Descent) (index : ℕ) (x y : ChildNodes) (step : Step) (reason : Reason) (tree : PartialTree) → IsFreshAt index x.edges → y.edges ≡ x.edges
    → y.grown.items ≡ x.grown.items → Taken (stand_of walk) (stage fresh walk.left) step tree → IsLeft step walk.left after.left → step ≡ Stuck reason
    → FirstStepAt walk index x (Stuck reason) y after
stays_fresh walk after index x y step reason tree there edges row h left e = (
  fresh,
  stuck_fresh (stand_of walk) walk.left reason tree (subst (λ s. Taken (stand_of walk) (stage fresh walk.left) s tree) e h),
  subst (λ s. IsLeft s walk.left after.left) e left,
  put_nothing index x y there edges row,
)

-- nor where there is no memory for the node
pub stays_for_memory : (walk after : Descent) (index : ℕ) (x y : ChildNodes) → IsFreshAt index x.edges → after ≡ walk → y.edges ≡ x.edges
    → y.grown.items ≡ x.grown.items → FirstStepAt walk index x (Stuck Memory) y after
stays_for_memory walk after index x y there same edges row =
    (fresh, refl, ap (λ (w : Descent). w.left) (sym same), put_nothing index x y there edges row)

-- the tree of an expanded leaf may be offered
pub leaf_offerable : (walk after : Descent) (step : Step) (new : PartialTree) → after ≡ walk → winner_of walk.line.frame walk.line.state ≡ None → step ≡ Expanded
    → Taken (stand_of walk) (stage fresh walk.left) step new → IsOfferable after.line new
leaf_offerable walk after step new e nobody is h =
    let expands = subst (λ x. Taken (stand_of walk) (stage fresh walk.left) x new) is h in
    subst (λ (w : Descent). IsOfferable w.line new) (sym e) (expansion_offerable walk.line new nobody expands.1.1)

-- ---- a tree that is put among others, and becomes another one

-- it is put there as that one
set_inserted : (ts : List PartialTree) (n : ℕ) (a b : PartialTree) → n ≤ length ts → set (insert ts n a) n b ≡ insert ts n b
set_inserted ts zero a b l = refl
set_inserted [] (suc n) a b l = absurd (omega (arith, l))
set_inserted (t ∷ ts) (suc n) a b l = ap (λ xs. t ∷ xs) (set_inserted ts n a b (omega (arith, l)))

-- taken away again, it leaves the others
remove_inserted : (ts : List PartialTree) (n : ℕ) (a : PartialTree) → n ≤ length ts → remove (insert ts n a) n ≡ ts
remove_inserted ts zero a l = refl
remove_inserted [] (suc n) a l = absurd (omega (arith, l))
remove_inserted (t ∷ ts) (suc n) a l = ap (λ xs. t ∷ xs) (remove_inserted ts n a (omega (arith, l)))

-- the same where the others have been given more room
module _ (old roomy more : List PartialTree) (n : ℕ) (a b : PartialTree) (l : n ≤ length old) (same : roomy ≡ old) (is : more ≡ insert roomy n a) where
  -- it is put there as the other tree
  pub stands_inserted : set more n b ≡ insert old n b
  stands_inserted = ap (λ ts. set ts n b) (is ∙ ap (λ ts. insert ts n a) same) ∙ set_inserted old n a b l

  -- and leaves the others where it is taken away again
  pub gone_again : remove (set more n b) n ≡ old
  gone_again = ap (λ ts. remove ts n) stands_inserted ∙ remove_inserted old n b l

-- the same nodes again are those of the children that have grown
pub still_whole : (es : List Edge) (ts us : List PartialTree) → grown_in es ≡ length ts → {vs : List PartialTree} → us ≡ vs → vs ≡ ts → grown_in es ≡ length us
still_whole es ts us whole is same = whole ∙ ap length (sym (is ∙ same))

-- where one more child has grown and its node stands among the others, each child that has grown has its node
pub put_whole : (es fs : List Edge) (ts us : List PartialTree) (index rank : ℕ) (e : Edge) (tree : PartialTree) → IsFreshAt index es → grown_in es ≡ length ts
    → rank ≡ grown_in (take index es) → edge_state_of e ≡ Grown → fs ≡ set es index e → us ≡ insert ts rank tree → grown_in fs ≡ length us
put_whole es fs ts us index rank e tree there whole r edge_state edges row =
    let within : rank ≤ length ts = omega (arith, r, rank_within es index, whole) in
    omega (arith, ap grown_in edges, one_more es index e there edge_state, whole, ap length row, length-insert ts rank tree within)

-- the new node stands among those that have grown, and its edge says so
module _ (x y : ChildNodes) (index rank : ℕ) (d e : Edge) (tree : PartialTree) (there : IsFreshAt index x.edges) (whole : HasItsNodes x)
    (r : rank ≡ grown_in (take index x.edges)) (edge_state : edge_state_of e ≡ Grown) (edges : y.edges ≡ set x.edges index e) (row : y.grown.items ≡ insert x.grown.items rank tree) where
  -- the child at the index becomes the new tree, and all else stays
  pub put : edge_turn e ≡ edge_turn (get_or x.edges index d) → IsPut index x tree y
  put turn = record {
    turns = rw edges (same_turns x.edges index d e (fresh_there x.edges index there) turn);
    trees =
        rw edges
        (ap (edge_trees (set x.edges index e)) (row ∙ ap (λ n. insert x.grown.items n tree) r)
        ∙ inserted_at_rank x.edges x.grown.items index e tree there edge_state (omega (arith, rank_within x.edges index, whole)));
  }

-- ---- what is below a node

-- a child whose mark says so is fresh
fresh_at : (es : List Edge) (i : ℕ) (d : Edge) → i < length es → edge_state_of (get_or es i d) ≡ Fresh → IsFreshAt i es
fresh_at [] i d l m = absurd (omega arith)
fresh_at (e ∷ es) zero d l m = m
fresh_at (e ∷ es) (suc i) d l m = fresh_at es i d (omega arith) m

-- an edge that the walk stands behind
module _ (es : List Edge) (ts : List PartialTree) (i : ℕ) (e : Edge) (l : i < length es) (is : e ≡ get_or es i e) where
  -- the child's tree is its edge's, of the nodes from its rank on
  child_is : child_at i es ts ≡ tree_of (edge_state_of e) (drop (grown_in (take i es)) ts)
  child_is = tree_at_index es ts i e fresh l ∙ ap (λ x. tree_of (edge_state_of x) (drop (grown_in (take i es)) ts)) (sym is)

  -- a child whose edge says so is fresh
  pub fresh_here : edge_state_of e ≡ Fresh → IsFreshAt i es
  fresh_here m = fresh_at es i e l (ap edge_state_of (sym is) ∙ m)

  -- and its tree is
  pub fresh_child : edge_state_of e ≡ Fresh → child_at i es ts ≡ fresh
  fresh_child m = child_is ∙ ap (λ k. tree_of k (drop (grown_in (take i es)) ts)) m

  -- a child whose edge says that a side has won is won
  pub won_child : (s : Side) → edge_state_of e ≡ Won s → child_at i es ts ≡ won s
  won_child s m = child_is ∙ ap (λ k. tree_of k (drop (grown_in (take i es)) ts)) m

  -- the edge of an undecided child doesn't say that a side has won
  pub not_won : IsUndecided (child_at i es ts) → (m : EdgeState) → edge_state_of e ≡ m → (s : Side) → m ≡ Won s → ⊥
  not_won u m h s w = won_decided s (subst IsUndecided (child_is ∙ ap (λ k. tree_of k (drop (grown_in (take i es)) ts)) (h ∙ w)) u)

  -- a child whose edge says that it has grown has its node
  pub grown_here : grown_in es ≡ length ts → edge_state_of e ≡ Grown → grown_in (take i es) < length ts
  grown_here w m = omega (arith, rank_there es i e l (ap edge_state_of (sym is) ∙ m), w)

  -- its tree is the node at its rank
  pub grown_child : grown_in es ≡ length ts → edge_state_of e ≡ Grown → child_at i es ts ≡ get_or ts (grown_in (take i es)) fresh
  grown_child w m = grown_at_index es ts i e fresh l (ap edge_state_of (sym is) ∙ m) w

  -- a new node at its rank is a new tree at its index
  pub grown_put : grown_in es ≡ length ts → edge_state_of e ≡ Grown → (tree : PartialTree) → edge_trees es (set ts (grown_in (take i es)) tree) ≡ set (edge_trees es ts) i tree
  grown_put w m tree = grown_on es ts i e tree l (ap edge_state_of (sym is) ∙ m) (grown_here w m)

-- what a list has at an index doesn't hang on the default
pub any_default : (ts : List PartialTree) (i : ℕ) (a b : PartialTree) → i < length ts → get_or ts i a ≡ get_or ts i b
any_default [] i a b l = absurd (omega arith)
any_default (t ∷ ts) zero a b l = refl
any_default (t ∷ ts) (suc i) a b l = any_default ts i a b (omega arith)

-- the node of a child that has grown
module _ (x : ChildNodes) (i rank : ℕ) (e : Edge) (node : PartialTree) (l : i < length x.edges) (is : e ≡ get_or x.edges i e) (whole : HasItsNodes x)
    (edge_state : Grown ≡ edge_state_of e) (r : rank ≡ grown_in (take i x.edges)) where
  -- the rank is that of a node
  pub rank_within_nodes : rank < length x.grown.items
  rank_within_nodes = omega (arith, r, grown_here x.edges x.grown.items i e l is whole (sym edge_state))

  -- the child's tree is the node
  pub child_node : node ≡ get_or x.grown.items rank node → child_of x i ≡ node
  child_node n =
      grown_child x.edges x.grown.items i e l is whole (sym edge_state)
      ∙ ap (λ k. get_or x.grown.items k fresh) (sym r)
      ∙ any_default x.grown.items rank fresh node rank_within_nodes
      ∙ sym n

  -- steps of the node are steps of the child
  pub node_steps : (stop : StopAfter) (at : Stand) (left : ℕ) (step : Step) (new : PartialTree) (left_after : ℕ) (y : ChildNodes) → y.edges ≡ x.edges
      → y.grown.items ≡ set x.grown.items rank new → node ≡ get_or x.grown.items rank node → AreStepsAt stop at (stage node left) step (stage new left_after)
      → StepsBelowAt stop at i x left step y left_after
  node_steps stop at left step new left_after y edges row n k = (
    new,
    subst (λ t. AreStepsAt stop at (stage t left) step (stage new left_after)) (sym (child_node n)) k,
    record {
      turns = rw edges refl;
      trees =
          rw (edges, row)
          (subst (λ q. edge_trees x.edges (set x.grown.items q new) ≡ set (edge_trees x.edges x.grown.items) i new) (sym r)
          (grown_put x.edges x.grown.items i e l is whole (sym edge_state) new));
    },
  )

-- a step at a fresh child is one of its steps
pub one_step : (stop : StopAfter) (walk : Descent) (index : ℕ) (x : ChildNodes) (step : Step) (y : ChildNodes) (after : Descent) → child_of x index ≡ fresh → FirstStepAt walk index x step y after
    → StepsBelow stop walk index x step y after
one_step stop walk index x step y after c (tree, taken, counted, put) = (
  tree,
  subst (λ t. AreStepsAt stop (stand_of walk) (stage t walk.left) step (stage tree after.left)) (sym c) (record {
    how_many = 0;
    before = stage fresh walk.left;
    steady = refl;
    one = λ h. refl;
    taken = taken;
    counted = counted;
  }),
  put,
)
