use Rattle.std.proofs.Common.{◌≡◌, ◌-◌, length}
use Rattle.tt_share_tests.proofs.tests.desk_tests.draw_all.Given as goal

abbrev pub invariant-loop-job : goal.invariant-loop-job
invariant-loop-job l = l.seat.desk ≡ l.desk.id

abbrev pub decreases-loop-job : goal.decreases-loop-job
decreases-loop-job l = l.desk.jobs - length l.seat.numbers
