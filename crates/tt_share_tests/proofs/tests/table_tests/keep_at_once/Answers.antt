use denote.RattleType.{RattleType}
use denote.Exit.{no}
use denote.Param.{param}
use denote.Param.Send.{IsSend, IsSync, arg_send, param_send, sendable}
use denote.Param.SendFields.{declared_send}
use denote.Ref.{NamedLft}
use denote.Struct.Field.{shr_ref_field}
use denote.Struct.Tuple.{TupleAt, type_at}
use mathlib.Core.List.{[], ◌∷◌}
use mir.Syntax.{Sym}
use Rattle.std.proofs.Crossing.{crosses}
use Rattle.std.proofs.MapsCrossing.{crosses as maps_cross}
use Rattle.std.specs.contracts.alloc.Global as Global
use Rattle.std.specs.contracts.impls.GlobalAllocator.TheImpl.{ghosts}
use Rattle.std.specs.contracts.sync.Arc as Arc
use Rattle.tt_proof.specs.contracts.proven.Proof as Proof
use Rattle.tt_share.specs.contracts.table.locked.Table as Table
use Rattle.tt_share.specs.contracts.table.TableState as TableState
use Rattle.tt_proof.proofs.Sent.{shared_send}
use Rattle.tt_share_tests.proofs.tests.table_tests.keep_at_once.Goals as goal

-- what a lock around a table holds: its proofs, and where those of each position are
state_send : IsSend TableState.the_row
state_send = search (sendable, crosses, maps_cross, shared_send) depth 40

table_sync : IsSync Table.the_row
table_sync = search (sendable, crosses, state_send) depth 40

-- a closure that holds a handle of the system, a table and a proof
keeper_send : (ν : Sym) (R : RattleType) (a b : NamedLft) → IsSync R
    → IsSend (TupleAt ν ((shr_ref_field a (param 0 R) tt).row ∷ (shr_ref_field b Table.the_row tt).row ∷ Arc.the_row Proof.the_row Global.the_row ghosts ∷ []))
keeper_send ν R a b r = declared_send (type_at ν ((shr_ref_field a (param 0 R) tt).row ∷ (shr_ref_field b Table.the_row tt).row ∷ Arc.the_row Proof.the_row Global.the_row ghosts ∷ [])) (
  search sendable depth 20,
  (search (sendable, table_sync) depth 20, (search (sendable, crosses, shared_send) depth 40, tt)),
)

pub join-requires-send-F : goal.join-requires-send-F
join-requires-send-F g c κs within = param_send 1 _ (arg_send _ no _ (keeper_send _ _ _ _ c.type_bounds.sync-R))
