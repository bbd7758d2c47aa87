use Rattle.std.proofs.Common.{◌++◌, refl, subst, ◌∙◌}
use Rattle.std.proofs.lemmas.Option.{same_Some}
use Rattle.tt_share.specs.Seats.{SeatModel}
use Rattle.tt_share.specs.inside.Workers.{AddsOverdraw, jobs_of}
use Rattle.tt_share.proofs.workers.work_at_place.Goals as goal

pub returns : goal.returns
returns g c =
    let back = c.work_with_view.result in
    record {
      back = back;
      left = refl;
      work = c.work_with_view.ensures.work;
      drawn = λ seat is. subst (λ (s : SeatModel). AddsOverdraw c.args.desk.now.jobs (s.numbers ++ jobs_of back.searched.items) back.seat.numbers)
          (same_Some _ _ (c.in-Some.ensures.value ∙ is)) c.work_with_view.ensures.drawn;
    }
