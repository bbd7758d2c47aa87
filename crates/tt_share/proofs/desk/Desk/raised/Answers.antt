use Rattle.std.proofs.Common.{rules}
use Rattle.tt_share.proofs.DeskMoves.{looks}
use Rattle.tt_share.proofs.desk.Desk.raised.Goals as goal

pub load-requires : goal.load-requires
load-requires c = (search rules, search rules, looks _ _ _ _ (search rules) (search rules))
