-- Strategy trees, footprints and proofs may cross threads and be shared. Trees hold trees, so they are taken layer by layer.
use denote.RattleType.{RattleType}
use denote.Struct.Field.{bool-field, u16-field, u64-field}
use denote.Hole.FixSend.{Crosses, both_send, both_sync}
use denote.Param.Send.{IsSend, IsSync, view_send, view_sync, sendable}
use denote.Param.SendFields.{as_row_send, as_row_sync, declared_send, declared_sync}
use Rattle.std.proofs.Crossing.{crosses}
use Rattle.std.specs.contracts.alloc.Global as Global
use Rattle.std.specs.contracts.impls.GlobalAllocator.TheImpl.{ghosts}
use Rattle.std.specs.contracts.sync.Arc as Arc
use Rattle.tt_board.proofs.Sent.{board_send, board_sync}
use Rattle.tt_game.specs.contracts.history.snapshot.Snapshot as Snapshot
use Rattle.tt_game.proofs.Sent.{snapshot_send, snapshot_sync, side_send, side_sync}
use Rattle.tt_proof.specs.contracts.tree.Tree as Tree
use Rattle.tt_proof.specs.contracts.tree.Tree.TheKnot as TreeKnot
use Rattle.tt_proof.specs.contracts.measured_tree.MeasuredTree as MeasuredTree
use Rattle.tt_proof.specs.contracts.measured_tree.MeasuredTree.TheInside as Planned
use Rattle.tt_proof.specs.contracts.board_set.BoardSet as BoardSet
use Rattle.tt_proof.specs.contracts.footprints.Footprint as Footprint
use Rattle.tt_proof.specs.contracts.life_proof.LifeProof as LifeProof
use Rattle.tt_proof.specs.contracts.life_proof.LifeProof.TheInside as LifeInside
use Rattle.tt_proof.specs.contracts.proven.Proof as Proof
use Rattle.tt_proof.specs.contracts.proven.Proof.TheInside as Inside

-- a tree holds its parts through handles, so each law of a layer asks both laws of the trees below
module _ (h : TreeKnot.the_members → RattleType) (below : IsSend (h TreeKnot.member-Tree)) (shared : IsSync (h TreeKnot.member-Tree)) where
  tree_layer_send : IsSend (TreeKnot.layer-Tree (h TreeKnot.member-Tree) (h TreeKnot.member-Tree))
  tree_layer_send = search (sendable, crosses) depth 40

  tree_layer_sync : IsSync (TreeKnot.layer-Tree (h TreeKnot.member-Tree) (h TreeKnot.member-Tree))
  tree_layer_sync = search (sendable, crosses) depth 40

-- trees cross threads and are shared, layer by layer
tree_crosses : (i : TreeKnot.the_members) → Crosses TreeKnot.ring i
tree_crosses = Tree.by_members (λ i. Crosses TreeKnot.ring i) (record {
  send = λ h below shared. tree_layer_send h (below TreeKnot.member-Tree) (shared TreeKnot.member-Tree);
  sync = λ h below shared. tree_layer_sync h (below TreeKnot.member-Tree) (shared TreeKnot.member-Tree);
})

-- so do the trees that a layer holds
tree_hole : IsSend TreeKnot.hole-Tree
tree_hole = record { owned = (both_send TreeKnot.ring tree_crosses TreeKnot.member-Tree).owned; leaving = λ k x w. tt }

-- and they are shared
tree_hole_shared : IsSync TreeKnot.hole-Tree
tree_hole_shared = record { shared = (both_sync TreeKnot.ring tree_crosses TreeKnot.member-Tree).shared }

pub tree_send : IsSend Tree.the_row
tree_send = search (sendable, crosses, tree_hole, tree_hole_shared) depth 40

pub tree_sync : IsSync Tree.the_row
tree_sync = search (sendable, crosses, tree_hole, tree_hole_shared) depth 40

pub measured_tree_send : IsSend MeasuredTree.the_row
measured_tree_send = view_send _ _ _ _ _ (declared_send Planned.the_type (tree_send, (as_row_send u16-field (search sendable depth 20), (as_row_send u64-field (search sendable depth 20), tt))))

pub measured_tree_sync : IsSync MeasuredTree.the_row
measured_tree_sync = view_sync _ _ _ _ _ (declared_sync Planned.the_type (tree_sync, (as_row_sync u16-field (search sendable depth 20), (as_row_sync u64-field (search sendable depth 20), tt))))

-- the boards of a footprint are held through handles
pub boards_send : IsSend BoardSet.the_row
boards_send = search (sendable, crosses, board_send, board_sync) depth 40

pub boards_sync : IsSync BoardSet.the_row
boards_sync = search (sendable, crosses, board_send, board_sync) depth 40

pub footprint_send : IsSend Footprint.the_row
footprint_send = search (sendable, crosses, boards_send) depth 40

pub footprint_sync : IsSync Footprint.the_row
footprint_sync = search (sendable, crosses, boards_sync) depth 40

pub life_proof_send : IsSend LifeProof.the_row
life_proof_send =
    view_send _ _ _ _ _ (declared_send LifeInside.the_type (
      as_row_send Snapshot.the_field snapshot_send,
      (
        side_send,
        (as_row_send MeasuredTree.the_field measured_tree_send, (footprint_send, (as_row_send bool-field (search sendable depth 20), tt))),
      ),
    ))

pub life_proof_sync : IsSync LifeProof.the_row
life_proof_sync =
    view_sync _ _ _ _ _ (declared_sync LifeInside.the_type (
      as_row_sync Snapshot.the_field snapshot_sync,
      (
        side_sync,
        (as_row_sync MeasuredTree.the_field measured_tree_sync, (footprint_sync, (as_row_sync bool-field (search sendable depth 20), tt))),
      ),
    ))

pub proof_send : IsSend Proof.the_row
proof_send = view_send _ _ _ _ _ (declared_send Inside.the_type (as_row_send LifeProof.the_field life_proof_send, tt))

pub proof_sync : IsSync Proof.the_row
proof_sync = view_sync _ _ _ _ _ (declared_sync Inside.the_type (as_row_sync LifeProof.the_field life_proof_sync, tt))

-- so are proofs held through a handle
pub shared_send : IsSend (Arc.the_row Proof.the_row Global.the_row ghosts)
shared_send = search (sendable, crosses, proof_send, proof_sync) depth 40

pub shared_sync : IsSync (Arc.the_row Proof.the_row Global.the_row ghosts)
shared_sync = search (sendable, crosses, proof_send, proof_sync) depth 40
