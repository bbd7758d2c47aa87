use Rattle.std.proofs.Common.{rules, arith}
use Rattle.tt_share.proofs.DeskMoves.{grants}
use Rattle.tt_share.proofs.desk.Desk.grant.Goals as goal

pub fetch_add-number-requires : goal.fetch_add-number-requires
fetch_add-number-requires c =
    let total = rw c.in-Some.is at c.self.invariant.total_is in
    (search rules, search rules, grants _ _ _ _ (omega arith) (search rules) (search rules) (omega arith))
