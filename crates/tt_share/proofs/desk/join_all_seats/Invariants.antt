use Rattle.std.proofs.Common.{◌≡◌, ◌<◌, List, [], ◌∷◌, ◌++◌, All, vec_len}
use Rattle.tt_share.specs.Seats.{SeatModel}
use Rattle.tt_share.specs.inside.Gathering.{Gathers}
use Rattle.tt_share.proofs.desk.join_all_seats.Given as goal

abbrev pub invariant-loop-other : goal.invariant-loop-other
invariant-loop-other l = record {
  seated : (l.whole.table_id ≡ l.table.shared.table_id) × (l.whole.me.1 ≡ []);
  ours : All (λ (s : SeatModel). s.desk ≡ l.table.shared.table_id) l.seats.items;
  some : 0 < l.whole.me.0.seat_count;
  taken : (taken : List SeatModel) × (l.fn.seats.items ++ l.fn.last ∷ [] ≡ l.seats.items ++ taken) × Gathers taken l.whole.me.0;
}

abbrev pub decreases-loop-other : goal.decreases-loop-other
decreases-loop-other l = vec_len l.seats
