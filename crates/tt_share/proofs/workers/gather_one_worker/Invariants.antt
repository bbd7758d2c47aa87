use Rattle.std.proofs.Common.{◌≡◌, ℕ, ◌+◌, ◌≤◌, ◌++◌, All, List, length, vec_len}
use Rattle.tt_share.specs.declared.jobs.SearchedJob.{SearchedJob}
use Rattle.tt_share.specs.inside.Jobs.{IsResult}
use Rattle.tt_share.specs.inside.Results.{KeepsEnds}
use Rattle.tt_share.specs.Answers.{spent_in_all}
use Rattle.tt_share.specs.inside.Workers.{times, spent_on, held, AreApart, IsPlaced, AreGiven}
use Rattle.tt_share.proofs.workers.gather_one_worker.Given as goal

abbrev pub invariant-loop-one : goal.invariant-loop-one
invariant-loop-one l = record {
  left : All (IsResult l.results.line l.results.limits) l.searched.items;
  same : l.results ≡ record l.initial.results { ends = l.results.ends; spent = l.results.spent };
  spent : AreApart l.initial.results.ends l.fn.searched.items → spent_in_all l.results.spent + spent_on l.searched.items ≡ spent_in_all l.initial.results.spent + spent_on l.fn.searched.items;
  held : (job : ℕ) → held l.results.ends job + times job l.searched.items ≤ held l.initial.results.ends job + times job l.fn.searched.items;
  len : length l.results.ends ≡ length l.initial.results.ends;
  kept : KeepsEnds l.initial.results.ends l.results.ends;
  given : AreGiven l.initial.results.ends l.results.ends l.fn.searched.items;
  placed : (put : List SearchedJob) × (l.fn.searched.items ≡ l.searched.items ++ put) × All (IsPlaced l.results.ends) put;
}

abbrev pub decreases-loop-one : goal.decreases-loop-one
decreases-loop-one l = vec_len l.searched
