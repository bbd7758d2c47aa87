use Rattle.std.proofs.Common.{◌≡◌, ◌≤◌, None, replicate, vec_len, vec_capacity}
use Rattle.tt_share.specs.inside.Jobs.{AreResults}
use Rattle.tt_share.proofs.results.Results.of.Given as goal

abbrev pub invariant-loop : goal.invariant-loop
invariant-loop l = record {
  len : vec_len l.ends ≡ l.counter;
  room : l.count ≤ vec_capacity l.ends;
  none : l.ends.items ≡ replicate l.counter None;
  are : AreResults l.jobs.line.now l.jobs.limits l.ends.items;
}
