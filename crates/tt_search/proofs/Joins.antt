-- The footprint of a settled node is made up of its children's.
use Rattle.std.proofs.Common.{◌≡◌, ℕ, zero, suc, ◌+◌, ◌<◌, ◌≤◌, List, [], ◌∷◌, ◌++◌, false, true, Ok, Err, IfOk, length, get_or, drop, refl, sym, ◌∙◌, ap, subst, arith}
use Rattle.std.specs.declared.result.Result.{Result}
use Rattle.std.proofs.lemmas.List.{at_drop_more}
use Rattle.tt_game.specs.declared.frame.Frame.{Frame}
use Rattle.tt_game.specs.declared.frame.Side.{Side}
use Rattle.tt_game.specs.declared.frame.Side.TheVariants.{Attacker, Defender}
use Rattle.tt_game.specs.declared.turns.Turn.{Turn}
use Rattle.tt_game.specs.declared.turns.Turn.TheVariants.{Pass}
use Rattle.tt_game.specs.Game.{State, IsLegal, after}
use Rattle.tt_game.specs.laws.TurnLaws.{EachIsLegal, legal_turns_are_legal}
use Rattle.tt_proof.specs.declared.footprints.Footprint.{Footprint}
use Rattle.tt_proof.specs.Strategy.{Strategy, Entries, reply, entry, entries_of}
use Rattle.tt_proof.specs.KeptFootprints.{IsFootprint, IsEntryJoined}
use Rattle.tt_search.specs.PartialTree.{PartialTree, fresh, expanded}
use Rattle.tt_search.specs.Numbers.{is_same_side, child_numbers}
use Rattle.tt_search.specs.Growing.{ArePartialTrees}
use Rattle.tt_search.specs.inside.Within.{AllStayWithin}
use Rattle.tt_search.specs.inside.Children.{children_of}
use Rattle.tt_search.specs.inside.Edges.{edge_turn, edge_state_of, edge_turns, tree_of, edge_trees, grown_behind, grown_in}
use Rattle.tt_search.specs.Settled.{strategy_for, first_settled_index, replies}
use Rattle.tt_search.specs.inside.Joining.{IsSettledAt, AreSettledAt}
use Rattle.tt_search.specs.inside.Choices.{node_with}
use Rattle.tt_search.specs.inside.ChildNodes.{choices_of, children_in, child_of}
use Rattle.tt_search.specs.declared.tree.edges.Edge.{Edge}
use Rattle.tt_search.specs.declared.tree.children.ChildNodes.{ChildNodes}
use Rattle.tt_search.proofs.Indices.{length-trees_by_turn, turn_at_index, nodes_behind, replies_at_end, replied_step}
use Rattle.tt_search.proofs.Replies.{joined, joined_none, joined_push}
use Rattle.tt_search.proofs.ChildSteps.{any_default}
use Rattle.tt_search.proofs.Steps.{stays_in_more}
use Rattle.tt_search.proofs.Strategies.{IsZeroAt, zero_at, own_zero, other_zero, all_zero, zero_sum}

-- what an answer says may be said otherwise
pub on_ok : {X E : Type 0} (r : Result X E) (P Q : X → Type 0) → ((x : X) → P x → Q x) → IfOk r P → IfOk r Q
on_ok (Ok x) P Q h p = h x p
on_ok (Err e) P Q h p = tt

-- a side is the same as itself
same_as_itself : (side : Side) → is_same_side side side ≡ true
same_as_itself Attacker = refl
same_as_itself Defender = refl

module _ (side : Side) (f : Frame) (s : State) where
  -- ---- the child that is picked

  -- a child with the number 0 is settled behind its turn, which is legal
  pub record IsSettledChild (i : ℕ) (turns : List Turn) (trees : List PartialTree) (t : Turn) (d : PartialTree) : Type 0 where
    pub there : i < length trees
    pub in_turns : i < length turns
    pub legal : IsLegal f s (get_or turns i t)
    pub child : IsSettledAt side f (after f s (get_or turns i t)) (get_or trees i d)

  child_at : (i : ℕ) (turns : List Turn) (trees : List PartialTree) (t : Turn) (d : PartialTree) → EachIsLegal f s turns → ArePartialTrees f s turns (children_of trees)
      → AllStayWithin f.size 511 (children_of trees) → IsZeroAt side i (children_of trees) → IsSettledChild i turns trees t d
  child_at i [] [] t d l p h z = absurd z
  child_at i [] (tree ∷ trees) t d l p h z = absurd p
  child_at i (u ∷ us) [] t d l p h z = absurd p
  child_at zero (u ∷ us) (tree ∷ trees) t d l p h z = record {
    there = omega arith;
    in_turns = omega arith;
    legal = l.0;
    child = record { settled = z; partial = p.0; stays = stays_in_more f.size 511 512 tree (omega arith) h.0 };
  }
  child_at (suc i) (u ∷ us) (tree ∷ trees) t d l p h z =
      let r = child_at i us trees t d l.1 p.1 h.1 z in
      record { there = omega (arith, r.there); in_turns = omega (arith, r.in_turns); legal = r.legal; child = r.child }

  -- the first settled child of a node where the side is to move is settled behind its turn
  picked_child : (turns : List Turn) (trees : List PartialTree) (t : Turn) (d : PartialTree) → IsSettledAt side f s (expanded side turns (children_of trees))
      → IsSettledChild (first_settled_index side (children_of trees)) turns trees t d
  picked_child turns trees t d h =
      child_at (first_settled_index side (children_of trees)) turns trees t d (subst (EachIsLegal f s) (sym h.partial.2) (legal_turns_are_legal f s)) h.partial.3 h.stays.1
      (zero_at side (children_of trees) (own_zero side side turns (children_of trees) (same_as_itself side) h.settled))

  -- so its index is there
  pub picked_there : (x : ChildNodes) (i : ℕ) → IsSettledAt side f s (node_with (choices_of side x)) → i ≡ first_settled_index side (children_in x) → i < length x.edges
  picked_there x i h is =
      omega (arith, is, length-trees_by_turn x.edges x.grown.items, (picked_child (edge_turns x.edges) (edge_trees x.edges x.grown.items) Pass fresh h).there)

  -- and what the code finds there is a legal turn, and a tree that is settled behind it
  pub picked_here : (x : ChildNodes) (i : ℕ) (e : Edge) (t : Turn) (child : PartialTree) → IsSettledAt side f s (node_with (choices_of side x)) → i ≡ first_settled_index side (children_in x)
      → e ≡ get_or x.edges i e → t ≡ edge_turn e → child ≡ child_of x i → IsLegal f s t × IsSettledAt side f (after f s t) child
  picked_here x i e t child h is at turn is_child =
      let turns = edge_turns x.edges in
      let trees = edge_trees x.edges x.grown.items in
      let r = subst (λ k. IsSettledChild k turns trees t child) (sym is) (picked_child turns trees t child h) in
      let a : get_or turns i t ≡ t = turn_at_index x.edges i e t (picked_there x i h is) ∙ ap edge_turn (sym at) ∙ sym turn in
      let b : get_or trees i child ≡ child = any_default trees i child fresh r.there ∙ sym is_child in
      (subst (IsLegal f s) a r.legal, subst (λ u. IsSettledAt side f (after f s u) child) a (subst (λ d. IsSettledAt side f (after f s (get_or turns i t)) d) b r.child))

  -- ---- the children that are replied to

  -- where the other side is to move, all children are settled
  pub replied_children : (mover : Side) (es : List Edge) (grown : List PartialTree) → is_same_side side mover ≡ false → grown_in es ≡ length grown
      → IsSettledAt side f s (expanded mover (edge_turns es) (children_of (edge_trees es grown))) → AreSettledAt side f s es grown
  replied_children mover es grown e whole h =
      let children = children_of (edge_trees es grown) in
      record {
        whole = whole;
        settled = all_zero side children (zero_sum (child_numbers side children) (other_zero side mover (edge_turns es) children e h.settled));
        legal = subst (EachIsLegal f s) (sym h.partial.2) (legal_turns_are_legal f s);
        partial = h.partial.3;
        stays = h.stays.1;
      }

  -- the first child, and those behind it
  pub record AreSettledFrom (e : Edge) (es : List Edge) (grown : List PartialTree) : Type 0 where
    pub legal : IsLegal f s (edge_turn e)
    pub child : IsSettledAt side f (after f s (edge_turn e)) (tree_of (edge_state_of e) grown)
    pub others : AreSettledAt side f s es (grown_behind (edge_state_of e) grown)

  settled_from : (e : Edge) (es : List Edge) (grown : List PartialTree) → AreSettledAt side f s (e ∷ es) grown → AreSettledFrom e es grown
  settled_from e es grown h = record {
    legal = h.legal.0;
    child = record { settled = h.settled.0; partial = h.partial.0; stays = stays_in_more f.size 511 512 (tree_of (edge_state_of e) grown) (omega arith) h.stays.0 };
    others = record {
      whole = nodes_behind (edge_state_of e) (grown_in es) grown h.whole;
      settled = h.settled.1;
      legal = h.legal.1;
      partial = h.partial.1;
      stays = h.stays.1;
    };
  }

  -- so it is at each index of a loop over the edges
  pub settled_here : (es : List Edge) (grown : List PartialTree) (i : ℕ) (e : Edge) → i < length es → AreSettledAt side f s (drop i es) grown
      → AreSettledFrom (get_or es i e) (drop (i + 1) es) grown
  settled_here es grown i e l h =
      settled_from (get_or es i e) (drop (i + 1) es) grown (subst (λ xs. AreSettledAt side f s xs grown) (at_drop_more (λ (xs : List Edge). xs) es i e l) h)

  -- ---- their footprints

  -- the replies to the edges
  abbrev pub replies_to : List Edge → List PartialTree → Entries
  replies_to es grown = replies side (edge_turns es) (children_of (edge_trees es grown))

  -- the footprint is that of a reply with the first of these entries; the replies to these edges are the others
  abbrev pub IsJoinedUpTo : Entries → List Edge → List PartialTree → Footprint → Type 0
  IsJoinedUpTo all es grown x = (ys : List (Turn × Strategy)) × (joined ys (replies_to es grown) ≡ all) × IsFootprint f s (reply (entries_of ys)) x

  -- one child more
  pub joined_here : (all : Entries) (es : List Edge) (grown : List PartialTree) (i : ℕ) (e : Edge) (t : Turn) (tree : PartialTree) (behind : List PartialTree) (old new : Footprint)
      → i < length es → t ≡ edge_turn (get_or es i e) → tree ≡ tree_of (edge_state_of (get_or es i e)) grown → behind ≡ grown_behind (edge_state_of (get_or es i e)) grown
      → IsEntryJoined f s t (strategy_for side tree) old new → IsJoinedUpTo all (drop i es) grown old → IsJoinedUpTo all (drop (i + 1) es) behind new
  joined_here all es grown i e t tree behind old new l is_turn is_tree is_behind more (ys, made, foot) =
      let u = strategy_for side tree in
      let rest : Entries = replies_to (drop (i + 1) es) behind in
      let step = replied_step side es grown i e l in
      let here : joined (ys ++ (t, u) ∷ []) rest ≡ all =
      joined_push ys (t, u) rest
      ∙ ap (λ v. joined ys (entry v u rest)) is_turn
      ∙ ap (λ v. joined ys (entry (edge_turn (get_or es i e)) (strategy_for side v) rest)) is_tree
      ∙ ap (λ us. joined ys (entry (edge_turn (get_or es i e)) (strategy_for side (tree_of (edge_state_of (get_or es i e)) grown)) (replies_to (drop (i + 1) es) us))) is_behind
      ∙ ap (joined ys) (sym step)
      ∙ made in
      (ys ++ (t, u) ∷ [], here, more ys foot)

  -- at the end it is that of the whole reply
  pub joined_all : (all : Entries) (es : List Edge) (grown : List PartialTree) (i : ℕ) (x : Footprint) → length es ≤ i → IsJoinedUpTo all (drop i es) grown x → IsFootprint f s (reply all) x
  joined_all all es grown i x l (ys, made, foot) =
      let whole : reply (entries_of ys) ≡ reply all = ap reply (sym (joined_none ys) ∙ ap (joined ys) (sym (replies_at_end side es grown i l)) ∙ made) in
      subst (λ u. IsFootprint f s u x) whole foot
