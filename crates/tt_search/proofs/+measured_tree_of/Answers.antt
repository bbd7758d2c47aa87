use Rattle.std.proofs.Common.{◌≡◌, ◌∙◌, ℕ, ◌+◌, ◌<◌, List, length, IfOk, get_or, drop, sym, ap, subst, arith}
use Rattle.tt_game.specs.declared.turns.Turn.{Turn}
use Rattle.tt_proof.specs.ProofClaim.{ProofClaim}
use Rattle.tt_proof.specs.Strategy.{Entries, reply, entry}
use Rattle.tt_search.specs.PartialTree.{PartialTree, fresh}
use Rattle.tt_search.specs.inside.Children.{children_of}
use Rattle.tt_search.specs.inside.Edges.{edge_turn, edge_state_of, tree_of, edge_turns, edge_trees}
use Rattle.tt_search.specs.Settled.{strategy_for, pick_at, replies}
use Rattle.tt_search.specs.inside.Weight.{weight, weight_all}
use Rattle.tt_search.specs.declared.tree.edges.Edge.{Edge}
use Rattle.tt_search.proofs.Replies.{joined, joined_push, joined_none, picked, pick_past_turns}
use Rattle.tt_search.proofs.Indices.{replies_at_end, length-turns_of, length-trees_by_turn, turn_at_index, replied_step, weight_step, whole_behind}
use Rattle.tt_search.proofs.Lifted.{weight_at}
use Rattle.tt_search.proofs.ChildSteps.{any_default}
use Rattle.tt_search.specs.inside.ChildNodes.{child_of, children_in}
use Rattle.tt_search.specs.Numbers.{number, child_numbers}
use Rattle.tt_search.specs.inside.Joining.{AreZero}
use Rattle.tt_search.specs.inside.Shape.{shape}
use Rattle.tt_search.specs.inside.Offered.{HoldsItsOwn}
use Rattle.tt_search.proofs.Strategies.{IsZeroAt, zero_at, own_zero, other_zero, all_zero, zero_sum}
use Rattle.tt_search.proofs.OneSide.{offered_for, zero_step, zero_there}
use Rattle.tt_search.specs.inside.Untried.{plays_and_pass, AreUntried}
use Rattle.tt_search.proofs.Untried.{untried_number}
use Rattle.tt_search.proofs.+measured_tree_of.Goals as goal

abbrev first : Edge
first = record { code = 0 }

pub tree::node::Node::measured_tree-returns-in-Offered : goal.tree::node::Node::measured_tree-returns-in-Offered
tree::node::Node::measured_tree-returns-in-Offered t c =
    let p = c.in-Offered.proof.value in
    let holds = subst HoldsItsOwn c.in-Offered.is c.self.invariant.1 in
    let is = sym (ap shape c.in-Offered.is) ∙ c.self.view_is in
    let tree = (offered_for c.in-Offered.field-0 c.in-Offered.field-1 p c.args.side c.args.self.now holds is c.requires).1 in
    let made = c.measured_tree-in-Offered.ensures.measured_tree ∙ ap (λ (q : ProofClaim). q.tree) c.deref-in-Offered.ensures ∙ tree in
    subst (λ u. IfOk c.try_clone-in-Offered.result (λ q. q ≡ u)) made c.try_clone-in-Offered.ensures

pub tree::children::ChildNodes::measured_tree-pick_tree-requires : goal.tree::children::ChildNodes::measured_tree-pick_tree-requires
tree::children::ChildNodes::measured_tree-pick_tree-requires t c =
    let x = c.args.self.now in (
      omega (arith, c.decreases),
      (c.requires.whole, own_zero c.args.side c.args.mover (edge_turns x.edges) (children_in x) (sym c.is_same_side.ensures ∙ c.if-is_same_side.true) c.requires.settled),
    )

pub tree::children::ChildNodes::measured_tree-reply_tree-requires : goal.tree::children::ChildNodes::measured_tree-reply_tree-requires
tree::children::ChildNodes::measured_tree-reply_tree-requires t c =
    let x = c.args.self.now in
    let side = c.args.side in
    let edges = c.as_slice.ensures in
    let grown = c.as_slice-else-is_same_side.ensures.value in
    let sum = other_zero side c.args.mover (edge_turns x.edges) (children_in x) (sym c.is_same_side.ensures ∙ c.if-is_same_side.false) c.requires.settled in (
      omega (
        arith,
        c.decreases,
        ap (λ es. weight_all (children_of (edge_trees es c.as_slice-else-is_same_side.result.now))) edges,
        ap (λ us. weight_all (children_of (edge_trees x.edges us))) grown,
      ),
      (rw (edges, grown) c.requires.whole, rw (edges, grown) (all_zero side (children_in x) (zero_sum (child_numbers side (children_in x)) sum))),
    )

pub settled::pick_tree-returns-then-index-len : goal.settled::pick_tree-returns-then-index-len
settled::pick_tree-returns-then-index-len t c =
    let x = c.args.children.now in
    c.done.ensures ∙ sym (rw (← c.first_settled_index-index.ensures.index)
    (pick_past_turns c.args.side (edge_turns x.edges) (edge_trees x.edges x.grown.items) c.first_settled_index-index.result.0
    (omega (arith, c.if-index-len.true, c.len.ensures, length-turns_of x.edges))))

pub settled::pick_tree-measured_tree-requires : goal.settled::pick_tree-measured_tree-requires
settled::pick_tree-measured_tree-requires t c =
    let x = c.args.children.now in
    let i : ℕ = c.first_settled_index-index.result.0 in
    let w = weight_at (edge_trees x.edges x.grown.items) i fresh (omega (arith, c.if-index-len.false, c.len.ensures, length-trees_by_turn x.edges x.grown.items)) in
    let z = subst (λ k. IsZeroAt c.args.side k (children_in x)) (sym c.first_settled_index-index.ensures.index) (zero_at c.args.side (children_in x) c.requires.settled) in
    (omega (arith, c.decreases, w, ap weight c.child.ensures), ap (number c.args.side) c.child.ensures ∙ zero_there c.args.side (edge_trees x.edges x.grown.items) i fresh z)

pub settled::pick_tree-returns : goal.settled::pick_tree-returns
settled::pick_tree-returns t c =
    let x = c.args.children.now in
    let turns : List Turn = edge_turns x.edges in
    let trees : List PartialTree = edge_trees x.edges x.grown.items in
    let i : ℕ = c.first_settled_index-index.result.0 in
    let child : PartialTree = child_of x i in
    let in_edges : i < length x.edges = omega (arith, c.if-index-len.false, c.len.ensures) in
    let in_trees : i < length trees = omega (arith, in_edges, length-trees_by_turn x.edges x.grown.items) in
    let turn = c.turn.ensures ∙ ap edge_turn c.at.ensures ∙ sym (turn_at_index x.edges i c.at.result c.turn.result in_edges) in
    let e = picked c.args.side turns trees i c.turn.result child _ turn (any_default trees i fresh child in_trees) (c.in_ok-child.ensures ∙ ap (strategy_for c.args.side) c.child.ensures)
    (omega (arith, in_edges, length-turns_of x.edges)) in_trees in
    subst (λ u. IfOk c.pick.result (λ p. p ≡ u)) (e ∙ ap (λ i. pick_at c.args.side i turns (children_of trees)) c.first_settled_index-index.ensures.index) c.pick.ensures

pub settled::reply_tree-measured_tree-requires : goal.settled::reply_tree-measured_tree-requires
settled::reply_tree-measured_tree-requires t c =
    let i : ℕ = c.loop-edge.edge-index in
    let here = zero_step c.args.side c.args.edges.now c.loop-edge.rest.now i first c.loop-edge-test.true c.loop-edge.invariant.settled in (
      omega (
        arith,
        c.decreases,
        c.loop-edge.invariant.lighter,
        weight_step c.args.edges.now c.loop-edge.rest.now i first c.loop-edge-test.true,
        ap weight c.split_first_child.ensures.child,
      ),
      ap (number c.args.side) c.split_first_child.ensures.child ∙ here.0,
    )

pub settled::reply_tree-loop-edge-preserved : goal.settled::reply_tree-loop-edge-preserved
settled::reply_tree-loop-edge-preserved t c =
    let i : ℕ = c.loop-edge.edge-index in
    let e : Edge = get_or c.args.edges.now i first in
    let left : List Edge = drop (i + 1) c.args.edges.now in
    let behind : List PartialTree = c.split_first_child.result.1.now in
    let rest : Entries = replies c.args.side (edge_turns left) (children_of (edge_trees left behind)) in
    let step = replied_step c.args.side c.args.edges.now c.loop-edge.rest.now i first c.loop-edge-test.true
    ∙ ap (λ us. entry (edge_turn e) (strategy_for c.args.side (tree_of (edge_state_of e) c.loop-edge.rest.now)) (replies c.args.side (edge_turns left) (children_of (edge_trees left us))))
    (sym c.split_first_child.ensures.behind) in
    record {
      made =
          ap (λ zs. joined zs rest) c.in_ok-push.ensures.ok
          ∙ joined_push c.loop-edge.answers (c.turn.result, c.in_ok-answer.answer) rest
          ∙ ap (λ u. joined c.loop-edge.answers (entry u c.in_ok-answer.answer rest)) c.turn.ensures
          ∙ ap (λ u. joined c.loop-edge.answers (entry (edge_turn e) u rest)) (c.in_ok-answer.ensures ∙ ap (strategy_for c.args.side) c.split_first_child.ensures.child)
          ∙ ap (joined c.loop-edge.answers) (sym step)
          ∙ c.loop-edge.invariant.made;
      whole = whole_behind c.args.edges.now c.loop-edge.rest.now i first c.loop-edge-test.true c.loop-edge.invariant.whole ∙ ap length (sym c.split_first_child.ensures.behind);
      settled = subst (λ us. AreZero c.args.side (children_of (edge_trees left us))) (sym c.split_first_child.ensures.behind)
          (zero_step c.args.side c.args.edges.now c.loop-edge.rest.now i first c.loop-edge-test.true c.loop-edge.invariant.settled).1;
      lighter = omega (
        arith,
        weight_step c.args.edges.now c.loop-edge.rest.now i first c.loop-edge-test.true,
        ap (λ us. weight_all (children_of (edge_trees left us))) c.split_first_child.ensures.behind,
        c.loop-edge.invariant.lighter,
      );
    }

pub settled::reply_tree-returns : goal.settled::reply_tree-returns
settled::reply_tree-returns t c =
    let none_left = replies_at_end c.args.side c.args.edges.now c.loop-edge.rest.now c.loop-edge.edge-index (omega (arith, c.loop-edge-test.false)) in
    let whole = ap reply (sym (joined_none c.loop-edge.answers) ∙ ap (joined c.loop-edge.answers) (sym none_left) ∙ c.loop-edge.invariant.made) in
    subst (λ u. IfOk c.into_measured_tree.result (λ p. p ≡ u)) whole c.into_measured_tree.ensures

pub tree::node::Node::measured_tree-unreachable-requires : goal.tree::node::Node::measured_tree-unreachable-requires
tree::node::Node::measured_tree-unreachable-requires t c =
    let untried : AreUntried (plays_and_pass c.in-Untried.field-1) = subst HoldsItsOwn c.in-Untried.is c.self.invariant.1 in
    let is = sym (ap shape c.in-Untried.is) ∙ c.self.view_is in
    untried_number c.args.side c.in-Untried.field-0 (plays_and_pass c.in-Untried.field-1) untried (ap (number c.args.side) is ∙ c.requires)
