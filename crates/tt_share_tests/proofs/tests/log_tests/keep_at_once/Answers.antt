use denote.Exit.{no}
use denote.Param.Send.{arg_send, param_send}
use mir.Syntax.{named}
use Rattle.tt_share.proofs.ViewSending.{keeper_send, seen_send}
use Rattle.tt_share_tests.proofs.tests.log_tests.keep_at_once.Goals as goal

pub join-requires-send-F : goal.join-requires-send-F
join-requires-send-F g c κs within = param_send 1 _ (arg_send _ no _ (keeper_send _ _ _ _ c.type_bounds.sync-R))

pub join-requires-send-A : goal.join-requires-send-A
join-requires-send-A g c κs within = param_send 3 _ (arg_send _ no _ (seen_send (record { mir = named 0; lft = _ })))
