use Rattle.std.proofs.Common.{rules, ap, arith, ◌∙◌, sym}
use Rattle.tt_share.specs.Desk.{SeatState, fresh_knowledge}
use Rattle.tt_share.proofs.DeskMoves.{cuts}
use Rattle.tt_share.proofs.desk.split_seats.Goals as goal

pub split_seat-seat-requires : goal.split_seat-seat-requires
split_seat-seat-requires c =
    let view = ap (λ (m : SeatState). m.0) c.loop.invariant.whole in
    let seat_count = ap (λ (m : SeatState). m.0.seat_count) c.loop.invariant.whole in
    (search rules, search rules, cuts _ _ _ (view ∙ ap fresh_knowledge (sym seat_count)) (omega arith))
