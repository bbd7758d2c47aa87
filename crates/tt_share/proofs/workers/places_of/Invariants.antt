use Rattle.std.proofs.Common.{◌≡◌, ◌++◌, ◌≤◌, map, length, vec_capacity}
use Rattle.std.specs.Vec.Iter.{into_iter_items}
use Rattle.tt_share.specs.inside.Workers.{place_of}
use Rattle.tt_share.proofs.workers.places_of.Given as goal

abbrev pub invariant-loop-seat : goal.invariant-loop-seat
invariant-loop-seat l = record {
  order : l.yielded ++ into_iter_items l.seat-iterator ≡ l.fn.seats.items;
  room : length l.fn.seats.items ≤ vec_capacity l.places;
  made : l.places.items ≡ map place_of l.yielded;
}
