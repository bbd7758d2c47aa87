use denote.Param.Send.{sendable}
use Rattle.std.proofs.Crossing.{crosses}
use Rattle.tt_share.proofs.Sending.{log_sync}
use Rattle.tt_share_tests.proofs.tests.gate_tests.are_searched_within.Goals as goal

-- the gate holds the log
pub solved-requires-sync-G : goal.solved-requires-sync-G
solved-requires-sync-G g c κs within = search (sendable, crosses, log_sync) depth 40
