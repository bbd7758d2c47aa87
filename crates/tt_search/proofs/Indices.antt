-- The children of a node, one by one.
use Rattle.std.proofs.Common.{◌≡◌, ℕ, zero, suc, ◌+◌, ◌<◌, ◌≤◌, List, [], ◌∷◌, ◌++◌, length, get_or, set, take, drop, refl, sym, ◌∙◌, ap, add-one, arith}
use Rattle.std.proofs.lemmas.List.{drop_all, at_drop_all, at_drop_more}
use Rattle.tt_game.specs.declared.frame.Side.{Side}
use Rattle.tt_proof.specs.Strategy.{entry, none}
use Rattle.tt_search.specs.inside.Children.{children_of}
use Rattle.tt_search.specs.Settled.{strategy_for, replies}
use Rattle.tt_search.specs.inside.Weight.{weight, weight_all}
use Rattle.tt_game.specs.declared.turns.Turn.{Turn}
use Rattle.tt_search.specs.PartialTree.{PartialTree, fresh}
use Rattle.tt_search.specs.inside.Edges.{edge_turn, edge_state_of, edge_turns, tree_of, grown_behind, edge_trees, counted, grown_in}
use Rattle.tt_search.specs.inside.ChildSteps.{IsFreshAt}
use Rattle.tt_search.specs.declared.tree.edges.Edge.{Edge}
use Rattle.tt_search.specs.declared.tree.edges.EdgeState.{EdgeState}
use Rattle.tt_search.specs.declared.tree.edges.EdgeState.TheVariants.{Fresh, Won, Grown}

-- there are as many trees as edges
pub length-trees_by_turn : (es : List Edge) (ts : List PartialTree) → length (edge_trees es ts) ≡ length es
length-trees_by_turn [] ts = refl
length-trees_by_turn (e ∷ es) ts = ap suc (length-trees_by_turn es (grown_behind (edge_state_of e) ts))

-- and as many turns
pub length-turns_of : (es : List Edge) → length (edge_turns es) ≡ length es
length-turns_of [] = refl
length-turns_of (e ∷ es) = ap suc (length-turns_of es)

-- the turn at an index is that of the edge there
pub turn_at_index : (es : List Edge) (i : ℕ) (e : Edge) (t : Turn) → i < length es → get_or (edge_turns es) i t ≡ edge_turn (get_or es i e)
turn_at_index [] i e t l = absurd (omega arith)
turn_at_index (x ∷ es) zero e t l = refl
turn_at_index (x ∷ es) (suc i) e t l = turn_at_index es i e t (omega arith)

-- ---- the nodes of those that have grown

abbrev nothing : List PartialTree
nothing = []

-- dropping from no trees leaves none
drop_none : (n : ℕ) → drop n nothing ≡ nothing
drop_none n = drop_all n nothing (omega arith)

-- of no trees, none is behind a child
behind_none : (m : EdgeState) → grown_behind m [] ≡ []
behind_none Fresh = refl
behind_none (Won side) = refl
behind_none Grown = refl

-- dropping the node that a child may have, and n more, is dropping n of those behind the child
drop_behind : (m : EdgeState) (n : ℕ) (ts : List PartialTree) → drop (counted m n) ts ≡ drop n (grown_behind m ts)
drop_behind Fresh n ts = refl
drop_behind (Won side) n ts = refl
drop_behind Grown n [] = drop_none (suc n) ∙ sym (drop_none n)
drop_behind Grown n (t ∷ ts) = refl

-- the tree at an index is its edge's, once the nodes of those before are dropped
pub tree_at_index : (es : List Edge) (ts : List PartialTree) (i : ℕ) (e : Edge) (d : PartialTree) → i < length es
    → get_or (edge_trees es ts) i d ≡ tree_of (edge_state_of (get_or es i e)) (drop (grown_in (take i es)) ts)
tree_at_index [] ts i e d l = absurd (omega arith)
tree_at_index (x ∷ es) ts zero e d l = refl
tree_at_index (x ∷ es) ts (suc i) e d l =
    tree_at_index es (grown_behind (edge_state_of x) ts) i e d (omega arith)
    ∙ ap (tree_of (edge_state_of (get_or es i e))) (sym (drop_behind (edge_state_of x) (grown_in (take i es)) ts))

-- counting a child keeps which of two numbers is less
counted_more : (m : EdgeState) (a b : ℕ) → a < b → counted m a < counted m b
counted_more Fresh a b l = l
counted_more (Won side) a b l = l
counted_more Grown a b l = omega (arith, l)

-- and adds at most one
pub counted_most : (m : EdgeState) (a : ℕ) → counted m a ≤ suc a
counted_most Fresh a = omega arith
counted_most (Won side) a = omega arith
counted_most Grown a = omega arith

-- the rank of a child that has grown is that of a node
pub rank_there : (es : List Edge) (i : ℕ) (e : Edge) → i < length es → edge_state_of (get_or es i e) ≡ Grown → grown_in (take i es) < grown_in es
rank_there [] i e l m = absurd (omega arith)
rank_there (x ∷ es) zero e l m = omega (arith, ap (λ k. counted k (grown_in es)) m)
rank_there (x ∷ es) (suc i) e l m = counted_more (edge_state_of x) (grown_in (take i es)) (grown_in es) (rank_there es i e (omega arith) m)

-- counting a child keeps that a number is no more than another
counted_within : (m : EdgeState) (a b : ℕ) → a ≤ b → counted m a ≤ counted m b
counted_within Fresh a b l = l
counted_within (Won side) a b l = l
counted_within Grown a b l = omega (arith, l)

-- no more have grown before an index than in all
pub rank_within : (es : List Edge) (i : ℕ) → grown_in (take i es) ≤ grown_in es
rank_within [] zero = omega arith
rank_within [] (suc i) = omega arith
rank_within (x ∷ es) zero = omega arith
rank_within (x ∷ es) (suc i) = counted_within (edge_state_of x) (grown_in (take i es)) (grown_in es) (rank_within es i)

-- two children may be counted in either order
counted_comm : (m k : EdgeState) (n : ℕ) → counted m (counted k n) ≡ counted k (counted m n)
counted_comm Fresh k n = refl
counted_comm (Won side) k n = refl
counted_comm Grown Fresh n = refl
counted_comm Grown (Won side) n = refl
counted_comm Grown Grown n = refl

-- the rank behind an index counts the child there too
rank_after : (es : List Edge) (i : ℕ) (e : Edge) → i < length es → grown_in (take (suc i) es) ≡ counted (edge_state_of (get_or es i e)) (grown_in (take i es))
rank_after [] i e l = absurd (omega arith)
rank_after (x ∷ es) zero e l = refl
rank_after (x ∷ es) (suc i) e l = ap (counted (edge_state_of x)) (rank_after es i e (omega arith)) ∙ counted_comm (edge_state_of x) (edge_state_of (get_or es i e)) (grown_in (take i es))

-- the same, with the index behind as i + 1
pub rank_next : (es : List Edge) (i : ℕ) (e : Edge) → i < length es → grown_in (take (i + 1) es) ≡ counted (edge_state_of (get_or es i e)) (grown_in (take i es))
rank_next es i e l = rw add-one (rank_after es i e l)

-- where n nodes are dropped, a grown child's tree is the node at n
tree_of_node : (ts : List PartialTree) (n : ℕ) (d : PartialTree) → n < length ts → tree_of Grown (drop n ts) ≡ get_or ts n d
tree_of_node [] n d l = absurd (omega arith)
tree_of_node (t ∷ ts) zero d l = refl
tree_of_node (t ∷ ts) (suc n) d l = tree_of_node ts n d (omega arith)

-- the tree of a child that has grown is the node at its rank
pub grown_at_index : (es : List Edge) (ts : List PartialTree) (i : ℕ) (e : Edge) (d : PartialTree) → i < length es → edge_state_of (get_or es i e) ≡ Grown → grown_in es ≡ length ts
    → get_or (edge_trees es ts) i d ≡ get_or ts (grown_in (take i es)) d
grown_at_index es ts i e d l m w =
    tree_at_index es ts i e d l
    ∙ ap (λ k. tree_of k (drop (grown_in (take i es)) ts)) m
    ∙ tree_of_node ts (grown_in (take i es)) d (omega (arith, rank_there es i e l m, w))

-- ---- a child that has grown grows on

-- a new first node is the tree of a grown first child, and the trees behind stay
set_here : (m : EdgeState) (es : List Edge) (ts : List PartialTree) (tree : PartialTree) → m ≡ Grown → 0 < length ts
    → tree_of m (set ts 0 tree) ∷ edge_trees es (grown_behind m (set ts 0 tree)) ≡ tree ∷ edge_trees es (grown_behind m ts)
set_here Fresh es ts tree g l = cc
set_here (Won side) es ts tree g l = cc
set_here Grown es [] tree g l = absurd (omega arith)
set_here Grown es (t ∷ ts) tree g l = refl

-- a new node behind a child leaves the child's tree as it was
set_behind : (m : EdgeState) (n : ℕ) (ts : List PartialTree) (tree : PartialTree) → counted m n < length ts → tree_of m (set ts (counted m n) tree) ≡ tree_of m ts
set_behind Fresh n ts tree l = refl
set_behind (Won side) n ts tree l = refl
set_behind Grown n [] tree l = refl
set_behind Grown n (t ∷ ts) tree l = refl

-- and it is put among the nodes behind
behind_set : (m : EdgeState) (n : ℕ) (ts : List PartialTree) (tree : PartialTree) → counted m n < length ts → grown_behind m (set ts (counted m n) tree) ≡ set (grown_behind m ts) n tree
behind_set Fresh n ts tree l = refl
behind_set (Won side) n ts tree l = refl
behind_set Grown n [] tree l = absurd (omega (arith, l))
behind_set Grown n (t ∷ ts) tree l = refl

-- a rank behind a child is a rank among the nodes behind
length_behind : (m : EdgeState) (n : ℕ) (ts : List PartialTree) → counted m n < length ts → n < length (grown_behind m ts)
length_behind Fresh n ts l = l
length_behind (Won side) n ts l = l
length_behind Grown n [] l = absurd (omega (arith, l))
length_behind Grown n (t ∷ ts) l = omega (arith, l)

-- a new node at the rank of a grown child is a new tree at its index
pub grown_on : (es : List Edge) (ts : List PartialTree) (i : ℕ) (e : Edge) (tree : PartialTree) → i < length es → edge_state_of (get_or es i e) ≡ Grown → grown_in (take i es) < length ts
    → edge_trees es (set ts (grown_in (take i es)) tree) ≡ set (edge_trees es ts) i tree
grown_on [] ts i e tree l m r = absurd (omega arith)
grown_on (x ∷ es) ts zero e tree l m r = set_here (edge_state_of x) es ts tree m r
grown_on (x ∷ es) ts (suc i) e tree l m r =
    let n : ℕ = grown_in (take i es) in
    ap (λ u. u ∷ edge_trees es (grown_behind (edge_state_of x) (set ts (counted (edge_state_of x) n) tree))) (set_behind (edge_state_of x) n ts tree r)
    ∙ ap (λ us. tree_of (edge_state_of x) ts ∷ edge_trees es us) (behind_set (edge_state_of x) n ts tree r)
    ∙ ap (λ us. tree_of (edge_state_of x) ts ∷ us) (grown_on es (grown_behind (edge_state_of x) ts) i e tree (omega arith) m (length_behind (edge_state_of x) n ts r))

-- ---- a fresh child grows

-- a fresh child's index is there
pub fresh_there : (es : List Edge) (i : ℕ) → IsFreshAt i es → i < length es
fresh_there [] i h = absurd h
fresh_there (x ∷ es) zero h = omega arith
fresh_there (x ∷ es) (suc i) h = omega (arith, fresh_there es i h)

-- a fresh tree instead of a fresh child changes nothing
pub fresh_tree : (es : List Edge) (ts : List PartialTree) (i : ℕ) → IsFreshAt i es → set (edge_trees es ts) i fresh ≡ edge_trees es ts
fresh_tree [] ts i h = absurd h
fresh_tree (x ∷ es) ts zero h = ap (λ m. fresh ∷ edge_trees es (grown_behind (edge_state_of x) ts)) h ∙ ap (λ m. tree_of m ts ∷ edge_trees es (grown_behind (edge_state_of x) ts)) (sym h)
fresh_tree (x ∷ es) ts (suc i) h = ap (λ us. tree_of (edge_state_of x) ts ∷ us) (fresh_tree es (grown_behind (edge_state_of x) ts) i h)

-- an edge of the same turn instead of another leaves the turns as they were
pub same_turns : (es : List Edge) (i : ℕ) (x e : Edge) → i < length es → edge_turn e ≡ edge_turn (get_or es i x) → edge_turns (set es i e) ≡ edge_turns es
same_turns [] i x e l t = absurd (omega arith)
same_turns (y ∷ es) zero x e l t = ap (λ u. u ∷ edge_turns es) t
same_turns (y ∷ es) (suc i) x e l t = ap (λ us. edge_turn y ∷ us) (same_turns es i x e (omega arith) t)

-- one more behind a child is one more with it
counted_suc : (m : EdgeState) (n : ℕ) → counted m (suc n) ≡ suc (counted m n)
counted_suc Fresh n = refl
counted_suc (Won side) n = refl
counted_suc Grown n = refl

-- where a fresh child grows, one more has grown
pub one_more : (es : List Edge) (i : ℕ) (e : Edge) → IsFreshAt i es → edge_state_of e ≡ Grown → grown_in (set es i e) ≡ suc (grown_in es)
one_more [] i e h g = absurd h
one_more (x ∷ es) zero e h g = ap (λ m. counted m (grown_in es)) g ∙ ap (λ m. suc (counted m (grown_in es))) (sym h)
one_more (x ∷ es) (suc i) e h g = ap (counted (edge_state_of x)) (one_more es i e h g) ∙ counted_suc (edge_state_of x) (grown_in es)

-- a node inserted behind a child leaves the child's tree as it was
insert_first : (m : EdgeState) (n : ℕ) (ts : List PartialTree) (tree : PartialTree) → counted m n ≤ length ts → tree_of m (take (counted m n) ts ++ tree ∷ drop (counted m n) ts) ≡ tree_of m ts
insert_first Fresh n ts tree l = refl
insert_first (Won side) n ts tree l = refl
insert_first Grown n [] tree l = absurd (omega (arith, l))
insert_first Grown n (t ∷ ts) tree l = refl

-- and it is inserted among the nodes behind
insert_behind : (m : EdgeState) (n : ℕ) (ts : List PartialTree) (tree : PartialTree) → counted m n ≤ length ts
    → grown_behind m (take (counted m n) ts ++ tree ∷ drop (counted m n) ts) ≡ take n (grown_behind m ts) ++ tree ∷ drop n (grown_behind m ts)
insert_behind Fresh n ts tree l = refl
insert_behind (Won side) n ts tree l = refl
insert_behind Grown n [] tree l = absurd (omega (arith, l))
insert_behind Grown n (t ∷ ts) tree l = refl

-- a rank to insert at behind a child is one among the nodes behind
most_behind : (m : EdgeState) (n : ℕ) (ts : List PartialTree) → counted m n ≤ length ts → n ≤ length (grown_behind m ts)
most_behind Fresh n ts l = l
most_behind (Won side) n ts l = l
most_behind Grown n [] l = absurd (omega (arith, l))
most_behind Grown n (t ∷ ts) l = omega (arith, l)

-- where a fresh child grows, a node inserted at its rank becomes the tree at its index
pub inserted_at_rank : (es : List Edge) (ts : List PartialTree) (i : ℕ) (e : Edge) (tree : PartialTree) → IsFreshAt i es → edge_state_of e ≡ Grown → grown_in (take i es) ≤ length ts
    → edge_trees (set es i e) (take (grown_in (take i es)) ts ++ tree ∷ drop (grown_in (take i es)) ts) ≡ set (edge_trees es ts) i tree
inserted_at_rank [] ts i e tree h g r = absurd h
inserted_at_rank (x ∷ es) ts zero e tree h g r =
    ap (λ m. tree_of m (tree ∷ ts) ∷ edge_trees es (grown_behind m (tree ∷ ts))) g
    ∙ ap (λ m. tree ∷ edge_trees es (grown_behind m ts)) (sym h)
inserted_at_rank (x ∷ es) ts (suc i) e tree h g r =
    let n : ℕ = grown_in (take i es) in
    let row : List PartialTree = take (counted (edge_state_of x) n) ts ++ tree ∷ drop (counted (edge_state_of x) n) ts in
    ap (λ u. u ∷ edge_trees (set es i e) (grown_behind (edge_state_of x) row)) (insert_first (edge_state_of x) n ts tree r)
    ∙ ap (λ us. tree_of (edge_state_of x) ts ∷ edge_trees (set es i e) us) (insert_behind (edge_state_of x) n ts tree r)
    ∙ ap (λ us. tree_of (edge_state_of x) ts ∷ us) (inserted_at_rank es (grown_behind (edge_state_of x) ts) i e tree h g (most_behind (edge_state_of x) n ts r))

-- ---- edges are added

-- one more edge is one more turn
pub turns_push : (es : List Edge) (e : Edge) → edge_turns (es ++ e ∷ []) ≡ edge_turns es ++ edge_turn e ∷ []
turns_push [] e = refl
turns_push (x ∷ es) e = ap (λ us. edge_turn x ∷ us) (turns_push es e)

-- without any nodes, one more edge is one more tree
pub trees_push : (es : List Edge) (e : Edge) → edge_trees (es ++ e ∷ []) [] ≡ edge_trees es [] ++ tree_of (edge_state_of e) [] ∷ []
trees_push [] e = refl
trees_push (x ∷ es) e =
    ap (λ us. tree_of (edge_state_of x) [] ∷ edge_trees (es ++ e ∷ []) us) (behind_none (edge_state_of x))
    ∙ ap (λ us. tree_of (edge_state_of x) [] ∷ us) (trees_push es e)
    ∙ ap (λ us. tree_of (edge_state_of x) [] ∷ edge_trees es us ++ tree_of (edge_state_of e) [] ∷ []) (sym (behind_none (edge_state_of x)))

-- one more edge whose child has not grown leaves the count as it was
pub grown_push : (es : List Edge) (e : Edge) → counted (edge_state_of e) 0 ≡ 0 → grown_in (es ++ e ∷ []) ≡ grown_in es
grown_push [] e h = h
grown_push (x ∷ es) e h = ap (counted (edge_state_of x)) (grown_push es e h)

-- ---- replies, edge by edge

-- the replies from an index on begin with that of the edge there
pub replied_step : (side : Side) (es : List Edge) (rest : List PartialTree) (i : ℕ) (e : Edge) → i < length es
    → replies side (edge_turns (drop i es)) (children_of (edge_trees (drop i es) rest)) ≡ entry (edge_turn (get_or es i e)) (strategy_for side (tree_of (edge_state_of (get_or es i e)) rest))
    (replies side (edge_turns (drop (i + 1) es)) (children_of (edge_trees (drop (i + 1) es) (grown_behind (edge_state_of (get_or es i e)) rest))))
replied_step side es rest i e l = at_drop_more (λ xs. replies side (edge_turns xs) (children_of (edge_trees xs rest))) es i e l

-- the weight from an index on: that of the child there and 1, and that from the next index on
pub weight_step : (es : List Edge) (rest : List PartialTree) (i : ℕ) (e : Edge) → i < length es
    → weight_all (children_of (edge_trees (drop i es) rest)) ≡ weight (tree_of (edge_state_of (get_or es i e)) rest) + 1 + weight_all
    (children_of (edge_trees (drop (i + 1) es) (grown_behind (edge_state_of (get_or es i e)) rest)))
weight_step es rest i e l = at_drop_more (λ xs. weight_all (children_of (edge_trees xs rest))) es i e l

-- past the last edge there are no replies
pub replies_at_end : (side : Side) (es : List Edge) (rest : List PartialTree) (i : ℕ) → length es ≤ i → replies side (edge_turns (drop i es)) (children_of (edge_trees (drop i es) rest)) ≡ none
replies_at_end side es rest i l = at_drop_all (λ xs. replies side (edge_turns xs) (children_of (edge_trees xs rest))) es i l

-- ---- as many nodes as children that have grown

-- where as many nodes are left as have grown, as many are left behind a child
pub nodes_behind : (m : EdgeState) (n : ℕ) (ts : List PartialTree) → counted m n ≡ length ts → n ≡ length (grown_behind m ts)
nodes_behind Fresh n ts h = h
nodes_behind (Won side) n ts h = h
nodes_behind Grown n [] h = absurd (omega (arith, h))
nodes_behind Grown n (t ∷ ts) h = omega (arith, h)

-- so it is at each index of a loop over the edges
module _ (es : List Edge) (ts : List PartialTree) (i : ℕ) (e : Edge) (l : i < length es) (whole : grown_in (drop i es) ≡ length ts) where
  counted_here : counted (edge_state_of (get_or es i e)) (grown_in (drop (i + 1) es)) ≡ length ts
  counted_here = sym (at_drop_more grown_in es i e l) ∙ whole

  -- behind the child there, there are as many nodes as have grown
  pub whole_behind : grown_in (drop (i + 1) es) ≡ length (grown_behind (edge_state_of (get_or es i e)) ts)
  whole_behind = nodes_behind (edge_state_of (get_or es i e)) (grown_in (drop (i + 1) es)) ts counted_here

-- another edge at an index leaves those before it
pub take_set : (es : List Edge) (i : ℕ) (e : Edge) → take i (set es i e) ≡ take i es
take_set [] i e = refl
take_set (x ∷ es) zero e = refl
take_set (x ∷ es) (suc i) e = ap (λ ys. x ∷ ys) (take_set es i e)
