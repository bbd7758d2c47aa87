use Rattle.std.proofs.Common.{◌≡◌, ◌∙◌, ◌⊎◌, inl, inr, ℕ, ◌+◌, ◌<◌, List, length, get_or, drop, IfOk, refl, sym, ap, subst, arith}
use Rattle.tt_game.specs.declared.turns.Turn.{Turn}
use Rattle.tt_game.specs.declared.frame.Frame.{Frame}
use Rattle.tt_game.specs.declared.frame.Side.{Side}
use Rattle.tt_game.specs.Game.{State, IsLegal, after}
use Rattle.tt_game.specs.Line.{LineWithUndo}
use Rattle.tt_proof.specs.ProofClaim.{ProofClaim, IsWinningTree}
use Rattle.tt_proof.specs.declared.footprints.Footprint.{Footprint}
use Rattle.tt_proof.specs.Strategy.{Entries, done, pick}
use Rattle.tt_proof.specs.KeptFootprints.{IsFootprint, IsEntryJoined}
use Rattle.tt_search.specs.PartialTree.{PartialTree, fresh}
use Rattle.tt_search.specs.inside.Offered.{HoldsItsOwn}
use Rattle.tt_search.specs.inside.Shape.{shape}
use Rattle.tt_search.specs.inside.Children.{children_of}
use Rattle.tt_search.specs.inside.Child.{child_tree}
use Rattle.tt_search.specs.inside.Edges.{edge_turn, edge_turns, edge_trees}
use Rattle.tt_search.specs.inside.ChildNodes.{children_in}
use Rattle.tt_search.specs.Settled.{strategy_for, first_settled_index, pick_at}
use Rattle.tt_search.specs.inside.Weight.{weight, weight_all}
use Rattle.tt_search.specs.inside.Joining.{IsSettledAt, AreSettledAt}
use Rattle.tt_search.specs.declared.tree.edges.Edge.{Edge}
use Rattle.tt_search.specs.declared.tree.children.Child.{Child}
use Rattle.tt_search.specs.declared.tree.children.Child.TheVariants.{Fresh, Won}
use Rattle.tt_search.proofs.Joins.{on_ok, picked_there, picked_here, replied_children, settled_here, replies_to, joined_here, joined_all}
use Rattle.tt_search.proofs.Lifted.{weight_at}
use Rattle.tt_search.proofs.Indices.{length-turns_of, length-trees_by_turn, turn_at_index, weight_step}
use Rattle.tt_search.proofs.Replies.{picked}
use Rattle.tt_search.proofs.ChildSteps.{any_default}
use Rattle.tt_search.proofs.OneSide.{offered_for}
use Rattle.tt_search.proofs.Strategies.{makes_proof}
use Rattle.tt_search.specs.Numbers.{number}
use Rattle.tt_search.specs.inside.Untried.{plays_and_pass, AreUntried}
use Rattle.tt_search.proofs.Untried.{untried_number}
use Rattle.tt_search.proofs.+footprint.Goals as goal

abbrev first : Edge
first = record { code = 0 }

-- the strategy behind a child that is fresh or won does nothing
by_nothing : (side : Side) (f : Frame) (s : State) (x : Footprint) (child : Child) → (child ≡ Fresh) ⊎ ((winner : Side) × (child ≡ Won winner)) → IsFootprint f s done x
    → IsFootprint f s (strategy_for side (child_tree child)) x
by_nothing side f s x child (inl e) foot = subst (λ k. IsFootprint f s (strategy_for side (child_tree k)) x) (sym e) foot
by_nothing side f s x child (inr (winner, e)) foot = subst (λ k. IsFootprint f s (strategy_for side (child_tree k)) x) (sym e) foot

-- ---- a node, and its children

pub tree::children::Child::board_and_footprint_after-returns-in-Fresh-clause-exact : goal.tree::children::Child::board_and_footprint_after-returns-in-Fresh-clause-exact
tree::children::Child::board_and_footprint_after-returns-in-Fresh-clause-exact t c =
    let f = c.args.line.now.frame in
    let s = after c.args.line.now.frame c.args.line.now.state c.args.turn in
    by_nothing c.args.side f s c.empty.result c.args.self c.in-Fresh.is (c.empty.ensures f s)

pub tree::node::Node::footprint-returns-in-Won-clause-exact : goal.tree::node::Node::footprint-returns-in-Won-clause-exact
tree::node::Node::footprint-returns-in-Won-clause-exact t c =
    let f = c.args.line.now.frame in
    let s = c.args.line.now.state in
    subst (λ tree. IsFootprint f s (strategy_for c.args.side tree) c.empty-in-Won.result) (sym (ap shape c.in-Won.is) ∙ c.self.view_is) (c.empty-in-Won.ensures f s)

pub tree::node::Node::footprint-footprint_at-requires-in-Offered : goal.tree::node::Node::footprint-footprint_at-requires-in-Offered
tree::node::Node::footprint-footprint_at-requires-in-Offered t c =
    let f = c.args.line.now.frame in
    let s = c.args.line.now.state in
    let p = c.in-Offered.proof.value in
    let holds = subst HoldsItsOwn c.in-Offered.is c.self.invariant.1 in
    let is = sym (ap shape c.in-Offered.is) ∙ c.self.view_is in
    let offered = offered_for c.in-Offered.field-0 c.in-Offered.field-1 p c.args.side c.args.self.now holds is c.requires.settled in
    let won = makes_proof c.args.side f s c.args.self.now p.tree offered.1 c.requires.settled c.requires.partial c.requires.stays in
    record { wins = subst (λ (q : ProofClaim). IsWinningTree q.side f s q.tree) (sym c.deref-in-Offered.ensures) (subst (λ side. IsWinningTree side f s p.tree) (sym offered.0) won) }

pub tree::node::Node::footprint-returns-in-Offered-clause-exact : goal.tree::node::Node::footprint-returns-in-Offered-clause-exact
tree::node::Node::footprint-returns-in-Offered-clause-exact t c =
    let f = c.args.line.now.frame in
    let s = c.args.line.now.state in
    let p = c.in-Offered.proof.value in
    let holds = subst HoldsItsOwn c.in-Offered.is c.self.invariant.1 in
    let is = sym (ap shape c.in-Offered.is) ∙ c.self.view_is in
    let offered = offered_for c.in-Offered.field-0 c.in-Offered.field-1 p c.args.side c.args.self.now holds is c.requires.settled in
    let tree : c.deref-in-Offered.result.now.tree ≡ strategy_for c.args.side c.args.self.now = ap (λ (q : ProofClaim). q.tree) c.deref-in-Offered.ensures ∙ offered.1 in
    subst (λ u. IfOk c.footprint_at-in-Offered.result (λ x. IsFootprint f s u x)) tree c.footprint_at-in-Offered.ensures.exact

pub tree::children::ChildNodes::footprint-reply_footprint-requires : goal.tree::children::ChildNodes::footprint-reply_footprint-requires
tree::children::ChildNodes::footprint-reply_footprint-requires t c =
    let x = c.args.self.now in
    let edges = c.as_slice.ensures in
    let grown = c.as_slice-else-is_same_side.ensures.value in (
      omega (
        arith,
        c.decreases,
        ap (λ es. weight_all (children_of (edge_trees es c.as_slice-else-is_same_side.result.now))) edges,
        ap (λ us. weight_all (children_of (edge_trees x.edges us))) grown,
      ),
      rw (edges, grown)
          (replied_children c.args.side c.args.line.now.frame c.args.line.now.state c.args.mover x.edges x.grown.items
          (sym c.is_same_side.ensures ∙ c.if-is_same_side.false) c.requires.whole c.requires.settled),
    )

-- ---- the child that is picked

pub footprints::pick_footprint-at-requires : goal.footprints::pick_footprint-at-requires
footprints::pick_footprint-at-requires t c =
    let x = c.args.children.now in
    omega (
      arith,
      picked_there c.args.side c.args.line.now.frame c.args.line.now.state x c.first_settled_index-index.result.0 c.requires.settled c.first_settled_index-index.ensures.index,
    )

pub footprints::pick_footprint-child-child-requires-clause-there : goal.footprints::pick_footprint-child-child-requires-clause-there
footprints::pick_footprint-child-child-requires-clause-there t c =
    picked_there c.args.side c.args.line.now.frame c.args.line.now.state c.args.children.now c.first_settled_index-index.result.0 c.requires.settled c.first_settled_index-index.ensures.index

pub footprints::pick_footprint-board_and_footprint_after-requires : goal.footprints::pick_footprint-board_and_footprint_after-requires
footprints::pick_footprint-board_and_footprint_after-requires t c =
    let x = c.args.children.now in
    let i : ℕ = c.first_settled_index-index.result.0 in
    let f = c.args.line.now.frame in
    let s = c.args.line.now.state in
    let there = picked_there c.args.side f s x i c.requires.settled c.first_settled_index-index.ensures.index in
    let w = weight_at (edge_trees x.edges x.grown.items) i fresh (omega (arith, there, length-trees_by_turn x.edges x.grown.items)) in (
      omega (arith, c.decreases, w, ap weight c.child-child.ensures),
      picked_here c.args.side f s x i c.at.result c.turn-turn.result (child_tree c.child-child.result)
          c.requires.settled c.first_settled_index-index.ensures.index c.at.ensures c.turn-turn.ensures c.child-child.ensures,
    )

pub footprints::pick_footprint-picked-requires-clause-legal : goal.footprints::pick_footprint-picked-requires-clause-legal
footprints::pick_footprint-picked-requires-clause-legal t c =
    let line = c.args.line.now in
    let here = picked_here c.args.side line.frame line.state c.args.children.now c.first_settled_index-index.result.0 c.at.result c.turn-turn.result (child_tree c.child-child.result)
    c.requires.settled c.first_settled_index-index.ensures.index c.at.ensures c.turn-turn.ensures c.child-child.ensures in
    subst (λ (l : LineWithUndo). IsLegal l.frame l.state c.turn-turn.result) (sym c.in_ok-board.ensures.same) here.0

pub footprints::pick_footprint-returns-clause-exact : goal.footprints::pick_footprint-returns-clause-exact
footprints::pick_footprint-returns-clause-exact t c =
    let side = c.args.side in
    let f = c.args.line.now.frame in
    let s = c.args.line.now.state in
    let x = c.args.children.now in
    let turns : List Turn = edge_turns x.edges in
    let trees : List PartialTree = edge_trees x.edges x.grown.items in
    let i : ℕ = c.first_settled_index-index.result.0 in
    let child : PartialTree = child_tree c.child-child.result in
    let in_edges = picked_there side f s x i c.requires.settled c.first_settled_index-index.ensures.index in
    let in_trees : i < length trees = omega (arith, in_edges, length-trees_by_turn x.edges x.grown.items) in
    let turn = c.turn-turn.ensures ∙ ap edge_turn c.at.ensures ∙ sym (turn_at_index x.edges i c.at.result c.turn-turn.result in_edges) in
    let e : pick c.turn-turn.result (strategy_for side child) ≡ pick_at side (first_settled_index side (children_in x)) turns (children_in x) =
    picked side turns trees i c.turn-turn.result child (strategy_for side child) turn (c.child-child.ensures ∙ any_default trees i fresh child in_trees) refl
    (omega (arith, in_edges, length-turns_of x.edges)) in_trees
    ∙ ap (λ k. pick_at side k turns (children_of trees)) c.first_settled_index-index.ensures.index in
    on_ok c.picked.result _ _ (λ y more. subst (λ u. IsFootprint f s u y) e (more (strategy_for side child) c.in_ok-board.ensures.exact))
    (rw c.in_ok-board.ensures.same at c.picked.ensures)

-- ---- the children that are replied to

pub footprints::reply_footprint-of_empty_reply_given_legal-requires : goal.footprints::reply_footprint-of_empty_reply_given_legal-requires
footprints::reply_footprint-of_empty_reply_given_legal-requires t c = c.points_of_plays.ensures c.args.line.now.frame c.args.line.now.state c.requires.legal

pub footprints::reply_footprint-board_and_footprint_after-requires : goal.footprints::reply_footprint-board_and_footprint_after-requires
footprints::reply_footprint-board_and_footprint_after-requires t c =
    let side = c.args.side in
    let f = c.args.line.now.frame in
    let s = c.args.line.now.state in
    let i : ℕ = c.loop-edge.edge-index in
    let e : Edge = get_or c.args.edges.now i first in
    let turn : Turn = c.turn-turn.result in
    let child : PartialTree = child_tree c.split_first_child.result.0 in
    let here = settled_here side f s c.args.edges.now c.loop-edge.rest.now i first c.loop-edge-test.true c.loop-edge.invariant.settled in
    let is_child = subst (λ u. IsSettledAt side f (after f s (edge_turn e)) u) (sym c.split_first_child.ensures.child) here.child in (
      omega (
        arith,
        c.decreases,
        c.loop-edge.invariant.lighter,
        weight_step c.args.edges.now c.loop-edge.rest.now i first c.loop-edge-test.true,
        ap weight c.split_first_child.ensures.child,
      ),
      (
        subst (λ (l : LineWithUndo). IsLegal l.frame l.state turn) (sym c.loop-edge.invariant.same) (subst (IsLegal f s) (sym c.turn-turn.ensures) here.legal),
        subst (λ (l : LineWithUndo). IsSettledAt side l.frame (after l.frame l.state turn) child) (sym c.loop-edge.invariant.same)
            (subst (λ u. IsSettledAt side f (after f s u) child) (sym c.turn-turn.ensures) is_child),
      ),
    )

pub footprints::reply_footprint-loop-edge-preserved : goal.footprints::reply_footprint-loop-edge-preserved
footprints::reply_footprint-loop-edge-preserved t c =
    let side = c.args.side in
    let f = c.args.line.now.frame in
    let s = c.args.line.now.state in
    let i : ℕ = c.loop-edge.edge-index in
    let e : Edge = get_or c.args.edges.now i first in
    let left : List Edge = drop (i + 1) c.args.edges.now in
    let turn : Turn = c.turn-turn.result in
    let child : PartialTree = child_tree c.split_first_child.result.0 in
    let behind : List PartialTree = c.split_first_child.result.1.now in
    let all : Entries = replies_to side f s c.args.edges.now c.args.grown.now in
    let same = c.in_ok-board.ensures.same ∙ c.loop-edge.invariant.same in
    let here = settled_here side f s c.args.edges.now c.loop-edge.rest.now i first c.loop-edge-test.true c.loop-edge.invariant.settled in
    let foot : IsFootprint f (after f s turn) (strategy_for side child) c.in_ok-board.below = rw c.loop-edge.invariant.same at c.in_ok-board.ensures.exact in
    let more : IsEntryJoined f s turn (strategy_for side child) c.loop-edge.footprint c.join_reply_turn.new.self =
    subst
    (λ (l : LineWithUndo). IsFootprint l.frame (after l.frame l.state turn) (strategy_for side child) c.in_ok-board.below
    → IsEntryJoined l.frame l.state turn (strategy_for side child) c.loop-edge.footprint c.join_reply_turn.new.self)
    same (c.in_ok-join_reply_turn.ensures (strategy_for side child)) foot in
    record {
      same = same;
      settled = subst (λ us. AreSettledAt side f s left us) (sym c.split_first_child.ensures.behind) here.others;
      joined = joined_here side f s all c.args.edges.now c.loop-edge.rest.now i first turn child behind c.loop-edge.footprint c.join_reply_turn.new.self c.loop-edge-test.true
          c.turn-turn.ensures c.split_first_child.ensures.child c.split_first_child.ensures.behind more c.loop-edge.invariant.joined;
      lighter = omega (
        arith,
        weight_step c.args.edges.now c.loop-edge.rest.now i first c.loop-edge-test.true,
        ap (λ us. weight_all (children_of (edge_trees left us))) c.split_first_child.ensures.behind,
        c.loop-edge.invariant.lighter,
      );
    }

pub footprints::reply_footprint-returns-clause-exact : goal.footprints::reply_footprint-returns-clause-exact
footprints::reply_footprint-returns-clause-exact t c =
    let f = c.args.line.now.frame in
    let s = c.args.line.now.state in
    joined_all c.args.side f s (replies_to c.args.side f s c.args.edges.now c.args.grown.now) c.args.edges.now c.loop-edge.rest.now c.loop-edge.edge-index c.loop-edge.footprint
    (omega (arith, c.loop-edge-test.false)) c.loop-edge.invariant.joined

pub tree::node::Node::footprint-unreachable-requires : goal.tree::node::Node::footprint-unreachable-requires
tree::node::Node::footprint-unreachable-requires t c =
    let untried : AreUntried (plays_and_pass c.in-Untried.field-1) = subst HoldsItsOwn c.in-Untried.is c.self.invariant.1 in
    let is = sym (ap shape c.in-Untried.is) ∙ c.self.view_is in
    untried_number c.args.side c.in-Untried.field-0 (plays_and_pass c.in-Untried.field-1) untried (ap (number c.args.side) is ∙ c.requires.settled)
