use Rattle.std.proofs.Common.{◌≡◌, ◌-◌, length}
use Rattle.tt_share_tests.proofs.tests.desk_tests.ask_all.Given as goal

abbrev pub invariant-loop : goal.invariant-loop
invariant-loop l = l.seat.desk ≡ l.desk.id

abbrev pub decreases-loop : goal.decreases-loop
decreases-loop l = l.total - length l.seat.grants
