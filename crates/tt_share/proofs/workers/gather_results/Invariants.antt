use Rattle.std.proofs.Common.{◌≡◌, ℕ, ◌+◌, ◌<◌, ◌≤◌, ◌++◌, sum_by, All, List, length, map, reverse, vec_len, vec_capacity}
use Rattle.tt_share.specs.declared.workers.HandedBack.{HandedBack}
use Rattle.tt_share.specs.inside.Results.{KeepsEnds}
use Rattle.tt_share.specs.Answers.{spent_in_all}
use Rattle.tt_share.specs.inside.Workers.{AreSearched, times, spent_by_all, held, AllApart, AllPlaced, OnlyHandedBack}
use Rattle.tt_share.proofs.workers.gather_results.Given as goal

abbrev pub invariant-loop-back : goal.invariant-loop-back
invariant-loop-back l = record {
  left : All (AreSearched l.results.line l.results.limits) l.work.items;
  seats : l.seats.items ++ reverse (map (λ (b : HandedBack). b.seat) l.work.items) ≡ reverse (map (λ (b : HandedBack). b.seat) l.fn.work.items);
  count : vec_len l.seats + vec_len l.work ≡ vec_len l.initial.work;
  room : vec_len l.seats + vec_len l.work < vec_capacity l.seats;
  same : l.results ≡ record l.initial.results { ends = l.results.ends; spent = l.results.spent };
  spent : AllApart l.initial.results.ends l.fn.work.items → spent_in_all l.results.spent + spent_by_all l.work.items ≡ spent_in_all l.initial.results.spent + spent_by_all l.fn.work.items;
  held : (job : ℕ) → held l.results.ends job + sum_by (λ (b : HandedBack). times job b.searched.items) l.work.items
      ≤ held l.initial.results.ends job + sum_by (λ (b : HandedBack). times job b.searched.items) l.fn.work.items;
  len : length l.results.ends ≡ length l.initial.results.ends;
  kept : KeepsEnds l.initial.results.ends l.results.ends;
  given : OnlyHandedBack l.initial.results.ends l.results.ends l.fn.work.items;
  placed : (put : List HandedBack) × (l.fn.work.items ≡ l.work.items ++ put) × All (AllPlaced l.results.ends) put;
}

abbrev pub decreases-loop-back : goal.decreases-loop-back
decreases-loop-back l = vec_len l.work
