use Rattle.std.proofs.Common.{◌≡◌, ◌++◌, ◌≤◌, Some, map, length, vec_capacity}
use Rattle.std.specs.Vec.Iter.{into_iter_items}
use Rattle.tt_share.specs.declared.workers.WorkerPlace.{WorkerPlace}
use Rattle.tt_share.proofs.workers.backs_of.Given as goal

abbrev pub invariant-loop-place : goal.invariant-loop-place
invariant-loop-place l = record {
  order : l.yielded ++ into_iter_items l.place-iterator ≡ l.fn.places.items;
  room : length l.fn.places.items ≤ vec_capacity l.work;
  taken : map Some l.work.items ≡ map (λ (p : WorkerPlace). p.back) l.yielded;
}
