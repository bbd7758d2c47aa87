-- Searches and their limits may cross threads. Nodes hold nodes, so they are taken layer by layer.
use denote.RattleType.{RattleType}
use denote.Struct.Field.{row_field}
use denote.Hole.{as_row}
use denote.Model.Cut.{rejoined, split_one}
use denote.Model.Local.{Parts, rows}
use denote.Model.Marks.{tied_send}
use denote.Param.Send.{IsSend, view_send, recorded_send, sendable}
use denote.Param.SendFields.{as_row_send, declared_send, variants_send}
use mathlib.Core.Path.{◌≡◌}
use Rattle.std.proofs.Crossing.{crosses}
use Rattle.std.specs.contracts.alloc.Global as Global
use Rattle.std.specs.contracts.impls.GlobalAllocator.TheImpl.{ghosts}
use Rattle.std.specs.contracts.sync.Arc as Arc
use Rattle.tt_game.proofs.Sent.{line_send, side_send}
use Rattle.tt_proof.specs.contracts.proven.Proof as Proof
use Rattle.tt_proof.proofs.Sent.{shared_send}
use Rattle.tt_search.specs.contracts.tree.children.BestChild as BestChild
use Rattle.tt_search.specs.contracts.tree.edge_storage.Edges as Edges
use Rattle.tt_search.specs.contracts.limits.Limits as Limits
use Rattle.tt_search.specs.contracts.tree.untried.UntriedPlays as UntriedPlays
use Rattle.tt_search.specs.contracts.tree.node.Node as Node
use Rattle.tt_search.specs.contracts.tree.node.Node.TheKnot as NodeKnot
use Rattle.tt_search.specs.declared.tree.node.Node.TheDeep as Deep
use Rattle.tt_search.specs.contracts.search.Search as Search
use Rattle.tt_search.specs.contracts.search.Search.TheInside as Within
use Rattle.tt_search.specs.contracts.descent.Descent as Descent

module _ (h : RattleType) (below : IsSend h) where
  child_nodes_layer : IsSend (NodeKnot.layer-ChildNodes h)
  child_nodes_layer = search (sendable, crosses) depth 40

  node_layer : IsSend (NodeKnot.layer-Node h)
  node_layer = search (sendable, crosses) depth 40

best_child_field : IsSend (as_row BestChild.the_field)
best_child_field = as_row_send BestChild.the_field (search (sendable, crosses, side_send) depth 40)

edges_send : IsSend Edges.the_row
edges_send = search (sendable, crosses) depth 40

-- plays are words, and how many there are
plays_send : IsSend UntriedPlays.the_row
plays_send = search (sendable, crosses) depth 40

plays_field : IsSend (as_row UntriedPlays.the_field)
plays_field = as_row_send UntriedPlays.the_field plays_send

shared_field : IsSend (as_row (Arc.the_field Proof.the_row Global.the_row ghosts))
shared_field = search (sendable, crosses, shared_send) depth 40

-- what a node has become holds packed children, of an expanded node or of one that has offered its proof
growth_layer : (expanded offered : RattleType) → IsSend expanded → IsSend offered → IsSend (NodeKnot.layer-NodeState expanded offered)
growth_layer expanded offered below above =
    variants_send (NodeKnot.type-NodeState expanded offered) (
      tt,
      (
        (side_send, tt),
        (
          (shared_field, tt),
          (
            (side_send, (plays_field, tt)),
            (
              (best_child_field, (as_row_send (row_field expanded) below, tt)),
              ((side_send, (as_row_send (row_field offered) above, (shared_field, tt))), tt),
            ),
          ),
        ),
      ),
    )

-- a type that splits into one that crosses threads crosses them
rejoined_send : (R : RattleType) (D : Type 0) (split : D → R.Denot) (join : R.Denot → D) (joins : (d : D) → join (split d) ≡ d) → IsSend R → IsSend (rejoined R D split join joins)
rejoined_send R D split join joins = recorded_send R D split (split_one R D split join joins)

-- where the nodes below cross threads, so do nodes
node_keeps : (p : Parts NodeKnot.frame) → ((j : Deep.the_members) → IsSend (rows NodeKnot.frame p j)) → (i : Deep.the_members) → IsSend (rows NodeKnot.frame (NodeKnot.step p) i)
node_keeps p all Deep.member-Node =
    let nodes = all Deep.member-Node in
    let child_nodes : IsSend (NodeKnot.at-ChildNodes p) = rejoined_send _ _ Deep.split-ChildNodes Deep.join-ChildNodes Deep.joins-ChildNodes (child_nodes_layer _ nodes) in
    let growth : IsSend (NodeKnot.at-NodeState p) = rejoined_send _ _ Deep.split-NodeState Deep.join-NodeState Deep.joins-NodeState (growth_layer _ _ child_nodes child_nodes) in
    let node : IsSend (NodeKnot.at-Node p) = rejoined_send _ _ Deep.split-Node Deep.join-Node Deep.joins-Node (node_layer _ growth) in
    let view : IsSend (NodeKnot.view-Node p) = view_send _ _ _ _ _ node in
    record { owned = view.owned; leaving = λ k x w. tt }

-- nodes cross threads
node_send : IsSend Node.the_row
node_send = tied_send NodeKnot.frame NodeKnot.step NodeKnot.sizes node_keeps Deep.member-Node

pub limits_send : IsSend Limits.the_row
limits_send = search (sendable, crosses) depth 40

walk_send : IsSend Descent.the_row
walk_send = search (sendable, crosses, line_send) depth 40

pub search_send : IsSend Search.the_row
search_send = view_send _ _ _ _ _ (declared_send Within.the_type (walk_send, (limits_send, (as_row_send Node.the_field node_send, tt))))
