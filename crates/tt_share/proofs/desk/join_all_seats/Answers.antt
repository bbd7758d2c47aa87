use Rattle.std.proofs.Common.{rules, ◌≡◌, ◌∷◌, ◌++◌, List, [], refl, sym, ap, ◌∙◌, subst, arith, append_assoc, Some}
use Rattle.std.proofs.lemmas.List.Elements.{All-pop}
use Rattle.tt_share.specs.Desk.{SeatState, joined_knowledge}
use Rattle.tt_share.specs.declared.desk.rule.SeatKnowledge.{SeatKnowledge}
use Rattle.tt_share.specs.Seats.{SeatModel}
use Rattle.tt_share.specs.inside.Gathering.{Gathers}
use Rattle.tt_share.proofs.DeskMoves.{joins}
use Rattle.tt_share.proofs.DeskClosing.{sat_as, gathers_first, gathers_more}
use Rattle.tt_share.proofs.desk.join_all_seats.Goals as goal

pub loop-other-init : goal.loop-other-init
loop-other-init c =
    let me = c.into_kit_seat-whole.ensures.me in record {
      seated = search rules;
      ours = c.requires.seats;
      some = let seat_count = ap (λ (m : SeatState). m.0.seat_count) me in omega arith;
      taken = (c.args.last ∷ [], refl, subst (λ (v : SeatKnowledge). Gathers (c.args.last ∷ []) v) (sym (ap (λ (m : SeatState). m.0) me)) (gathers_first c.args.last));
    }

pub join_seat-requires : goal.join_seat-requires
join_seat-requires c =
    let me = c.into_kit_seat.ensures.me in
    let seat_count = ap (λ (m : SeatState). m.0.seat_count) me in
    let both = All-pop (λ (s : SeatModel). s.desk ≡ c.args.table.now.shared.table_id) _ _ (Some c.in-Some.other) c.in-Some.ensures.items c.loop-other.invariant.ours in (
      search rules,
      c.into_kit_seat.ensures.desk ∙ both.1,
      ap (λ (m : SeatState). m.1) me,
      search rules,
      joins _ _ _ _ _ c.loop-other.invariant.some (omega arith),
    )

pub loop-other-preserved : goal.loop-other-preserved
loop-other-preserved c =
    let other = c.in-Some.other in
    let me = c.into_kit_seat.ensures.me in
    let after = c.join_seat.ensures.2 in
    let both = All-pop (λ (s : SeatModel). s.desk ≡ c.args.table.now.shared.table_id) _ _ (Some other) c.in-Some.ensures.items c.loop-other.invariant.ours in
    let was = c.loop-other.invariant.taken in
    let now : c.join_seat.new.seat.me.0 ≡ joined_knowledge c.loop-other.whole.me.0 (sat_as other) =
    ap (λ (m : SeatState). m.0) after ∙ ap (λ (m : SeatState). joined_knowledge c.loop-other.whole.me.0 m.0) me in record {
      seated = (c.join_seat.ensures.0 ∙ c.loop-other.invariant.seated.0, ap (λ (m : SeatState). m.1) after ∙ c.loop-other.invariant.seated.1);
      ours = both.0;
      some = let seat_count = ap (λ (v : SeatKnowledge). v.seat_count) now in omega arith;
      taken = (
        other ∷ was.0,
        was.1 ∙ (ap (λ (l : List SeatModel). l ++ was.0) c.in-Some.ensures.items ∙ append_assoc c.pop.new.self.items (other ∷ []) was.0),
        subst (λ (v : SeatKnowledge). Gathers (other ∷ was.0) v) (sym now) (gathers_more other was.0 c.loop-other.whole.me.0 was.2),
      );
    }
