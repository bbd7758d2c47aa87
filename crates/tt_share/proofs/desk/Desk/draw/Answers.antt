use Rattle.std.proofs.Common.{rules, arith}
use Rattle.tt_share.proofs.DeskMoves.{draws}
use Rattle.tt_share.proofs.desk.Desk.draw.Goals as goal

pub fetch_add-number-requires : goal.fetch_add-number-requires
fetch_add-number-requires c = (search rules, search rules, draws _ _ _ _ (omega arith) (search rules) (search rules) (omega arith))
