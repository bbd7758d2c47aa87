use Rattle.std.proofs.Common.{◌≡◌, ℕ, List, Option, MatchOption, min, sym, ap, ◌∙◌, subst, arith}
use lib.ListN.{get_elem?}
use mathlib.Core.Option.{some-injective}
use Rattle.tt_share.specs.Seats.{DeskModel, SeatModel, EachNumberInOneSeat, AreGrantsOfTotal}
use Rattle.tt_share.specs.inside.Gathering.{Gathers}
use Rattle.tt_share.proofs.DeskClosing.{End, closes, grants_by}
use Rattle.tt_share.proofs.desk.Desk.close.Goals as goal

pub returns : goal.returns
returns c =
    let end = c.close_with-words.ensures.values.2 in
    let kept = end.1.0 in
    let desk : DeskModel = c.args.self in
    let seats : List SeatModel = c.args.seats.items in
    let jobs = ap (λ (d : DeskModel). d.jobs) c.self.view_is in
    let slots = ap (λ (d : DeskModel). d.seats) c.self.view_is in
    let total = ap (λ (d : DeskModel). d.total) c.self.view_is in
    let words = sym end.2 ∙ kept.3 in
    let draws : kept.0 ≡ c.word-draws.result = some-injective _ _ (sym (ap (λ (l : List ℕ). get_elem? l 0) words) ∙ c.word-draws.ensures) in
    let asked : kept.2 ≡ c.word.result = some-injective _ _ (sym (ap (λ (l : List ℕ). get_elem? l 2) words) ∙ c.word.ensures) in
    let all = subst (λ (l : List SeatModel). Gathers l c.join_all_seats-whole.result.me.0) (sym c.in-Some.ensures.items) c.join_all_seats-whole.ensures.knowledge in
    let shown : End desk seats kept.0 kept.2 = closes desk _ _ _ _ _ _ _ seats (omega arith) (omega arith) (omega arith) (omega arith) (omega arith) all kept.4 end.1.1 in record {
      seats_are_all = omega arith;
      draws_each_once = subst (λ (n : ℕ). EachNumberInOneSeat (λ (s : SeatModel). s.numbers) n seats) draws shown.draws;
      jobs_drawn = shown.jobs_drawn;
      draws_most = let e = shown.draws_most in omega arith;
      draws_are = λ each. let e = shown.draws_are each in omega arith;
      sighted = shown.sighted;
      granted = subst (λ (o : Option ℕ). MatchOption o (c.granted_of_total-granted.result ≡ 0) (λ n. AreGrantsOfTotal n c.granted_of_total-granted.result seats)) total
          (grants_by c.self.inside.total _ c.word.result seats c.granted_of_total-granted.ensures (λ n. subst (λ (w : ℕ). AreGrantsOfTotal n (min w n) seats) asked (shown.grants n)));
    }
