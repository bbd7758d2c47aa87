use Rattle.std.proofs.Common.{◌≡◌, ◌-◌, ◌*◌, ◌<◌, ◌≤◌, ◌++◌, ◌⊎◌, true, IsTrue, All, length}
use Rattle.tt_share.specs.inside.Jobs.{IsResult}
use Rattle.tt_share.specs.declared.jobs.SearchedJob.{SearchedJob}
use Rattle.tt_share.specs.inside.Workers.{KeepsFirstStuck, SomeStuck, SomeWin, SomeTotal, WinsAreLast, jobs_of, spent_on}
use Rattle.tt_share.proofs.workers.work.Given as goal

abbrev pub invariant-loop-job : goal.invariant-loop-job
invariant-loop-job g l = record {
  desk : l.grants.desk.now ≡ l.desk;
  jobs : All (λ (f : SearchedJob). f.job < l.desk.jobs) l.searched.items;
  spent : l.grants.granted ≡ spent_on l.searched.items;
  few : l.grants.granted ≤ length l.searched.items * 1000000;
  refused : SomeTotal l.searched.items → l.grants.refused ≡ true;
  searched : All (IsResult l.jobs.line.now l.jobs.limits) l.searched.items;
  wins : WinsAreLast l.jobs.line.now.state.to_move l.grants.seat.flag l.searched.items;
  drawn : l.grants.seat.numbers ≡ l.fn.seat.numbers ++ jobs_of l.searched.items;
  flag : IsTrue l.grants.seat.flag → IsTrue l.fn.seat.flag ⊎ SomeWin l.jobs.line.now.state.to_move l.searched.items;
  stuck : IsTrue l.stuck → SomeStuck l.searched.items;
  kept : KeepsFirstStuck l.searched.items;
}

abbrev pub decreases-loop-job : goal.decreases-loop-job
decreases-loop-job g l = l.desk.jobs - length l.grants.seat.numbers
