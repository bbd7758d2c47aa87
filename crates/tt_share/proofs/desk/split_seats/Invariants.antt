use Rattle.std.proofs.Common.{◌≡◌, replicate, [], ◌-◌, ◌+◌, vec_capacity}
use Rattle.tt_share.specs.Desk.{fresh_knowledge}
use Rattle.tt_share.specs.Seats.{fresh_seat}
use Rattle.tt_share.proofs.desk.split_seats.Given as goal

abbrev pub invariant-loop : goal.invariant-loop
invariant-loop l = record {
  seated : l.first.table_id ≡ l.table.shared.table_id;
  whole : l.first.me ≡ (fresh_knowledge (l.seats + 1 - l.counter), []);
  room : vec_capacity l.all ≡ l.seats;
  handed : l.all.items ≡ replicate (l.counter - 1) (fresh_seat l.table.shared.table_id);
}
