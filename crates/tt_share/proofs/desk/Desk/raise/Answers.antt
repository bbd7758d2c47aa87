use Rattle.std.proofs.Common.{rules}
use Rattle.tt_share.proofs.DeskMoves.{raises}
use Rattle.tt_share.proofs.desk.Desk.raise.Goals as goal

pub fetch_max-requires : goal.fetch_max-requires
fetch_max-requires c = (search rules, search rules, raises _ _ _ _ (search rules) (search rules))
