use denote.Exit.{no}
use denote.Param.Send.{arg_sync, param_sync}
use Rattle.tt_dfpn.proofs.Sending.{certification_sync}
use Rattle.tt_team.proofs.rounds.Workers.certify_together.Goals as goal

pub run_workers-findings-requires-sync-W : goal.run_workers-findings-requires-sync-W
run_workers-findings-requires-sync-W g c κs within = param_sync 1 _ (arg_sync _ no _ (certification_sync _))
