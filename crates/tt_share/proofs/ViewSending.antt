-- A view may cross threads: tests hand views over, and have them back.
use denote.RattleType.{RattleType}
use denote.Param.{param}
use denote.Param.Send.{IsSend, IsSync, view_send, sendable}
use denote.Param.SendFields.{as_row_send, declared_send}
use denote.Ref.{NamedLft}
use denote.Struct.Field.{row_field, shr_ref_field}
use denote.Struct.Tuple.{TupleAt, type_at}
use mathlib.Core.List.{[], ◌∷◌}
use mir.Syntax.{Sym}
use Rattle.std.proofs.Crossing.{crosses}
use Rattle.std.specs.contracts.alloc.Global as Global
use Rattle.std.specs.contracts.impls.GlobalAllocator.TheImpl.{ghosts}
use Rattle.std.specs.contracts.vec.Vec as Vec
use Rattle.tt_share.specs.contracts.log.taken.TakenTokens as TakenTokens
use Rattle.tt_share.specs.contracts.log.taken.TakenTokens.TheInside as TakenInside
use Rattle.tt_share.specs.contracts.log.view.View as View
use Rattle.tt_share.specs.contracts.log.view.View.TheInside as ViewInside
use Rattle.tt_share.proofs.log.Token.TheSendSync.{the_send as token_send}
use Rattle.tt_proof.proofs.Sent.{shared_send}
use Rattle.tt_share.proofs.Sending.{Handle, log_sync}

-- the tokens that were taken in, with their log and index
taken_send : (a : NamedLft) → IsSend (TakenTokens.the_row a)
taken_send a = view_send _ _ _ _ _ (declared_send (TakenInside.the_type a) (
  search (sendable, log_sync) depth 20,
  (search (sendable, crosses, token_send) depth 40, (search (sendable, crosses) depth 40, tt)),
))

-- a view, which has them and some counts
pub seen_send : (a : NamedLft) → IsSend (View.the_row a)
seen_send a = view_send _ _ _ _ _ (declared_send (ViewInside.the_type a) (
  search (sendable, log_sync) depth 20,
  (
    as_row_send (TakenTokens.the_field a) (taken_send a),
    (search sendable depth 20, (search (sendable, crosses) depth 40, (search sendable depth 20, (search sendable depth 20, (search sendable depth 20, tt))))),
  ),
))

-- a closure that holds a handle of the system, a view and proofs
pub keeper_send : (ν : Sym) (R : RattleType) (a b : NamedLft) → IsSync R
    → IsSend (TupleAt ν ((shr_ref_field a (param 0 R) tt).row ∷ View.the_row b ∷ Vec.the_row Handle Global.the_row ghosts ∷ []))
keeper_send ν R a b r = declared_send (type_at ν ((shr_ref_field a (param 0 R) tt).row ∷ View.the_row b ∷ Vec.the_row Handle Global.the_row ghosts ∷ [])) (
  search sendable depth 20,
  (as_row_send (row_field (View.the_row b)) (seen_send b), (search (sendable, crosses, shared_send) depth 40, tt)),
)
