use Rattle.std.proofs.Common.{◌≡◌, ℕ, Bool, ◌<◌, ◌||◌, ◌⊎◌, IsTrue, List, [], ◌∷◌, ◌++◌, All, length, length-append, inr, sym, ap, subst, ◌∙◌, arith}
use Rattle.std.proofs.lemmas.List.{length-map}
use Rattle.std.proofs.lemmas.List.Elements.{All-push}
use Rattle.std.proofs.lemmas.List.Sums.{sum_by_push}
use Rattle.tt_share.specs.inside.Jobs.{IsResult, IsResultOf, IsJobCount, IsForTotal, IsDropped, IsWinFor, end_of, kept_of}
use Rattle.tt_share.specs.Seats.{DeskModel, SeatModel}
use Rattle.tt_share.specs.inside.Tallies.{Tallies}
use Rattle.tt_share.specs.inside.Workers.{KeepsFirstStuck, SomeStuck, SomeWin, SomeTotal, WinsAreLast, AddsOverdraw, jobs_of, spent_on}
use Rattle.tt_share.specs.declared.jobs.JobResult.{JobResult}
use Rattle.tt_share.specs.declared.jobs.SearchedJob.{SearchedJob}
use Rattle.tt_share.proofs.Apart.{times_drawn}
use Rattle.tt_share.proofs.Asked.{total_kept}
use Rattle.tt_share.proofs.DeskMoves.{left_true}
use Rattle.tt_share.proofs.Drawn.{drawn_more, drawn_all, numbers_of}
use Rattle.tt_share.proofs.LastWins.{not_none, pushed, marked, marks_again, flag_of, wins_more, last_wins, win_before, win_after, stuck_more, kept_more}
use Rattle.tt_share.proofs.Noting.{kept_count}
use Rattle.tt_share.proofs.ResultLemmas.{kept_result}
use Rattle.tt_share.proofs.Spending.{refused_total, refused_more}
use Rattle.tt_share.proofs.workers.work.Goals as goal

-- ---- a drawn job

pub search-job-requires : goal.search-job-requires
search-job-requires g c =
    let jobs = ap (λ (d : DeskModel). d.jobs) c.loop-job.invariant.desk in
    let drawn = ap (λ (ns : List ℕ). length ns) c.loop-job.invariant.drawn in
    let found = length-map c.loop-job.searched.items (λ (f : SearchedJob). f.job) in
    let long = length-append c.args.seat.numbers (jobs_of c.loop-job.searched.items) in
    let job = c.in-Some.ensures.job in record {
      job = omega (arith, job.0, jobs, c.requires.jobs);
      grants = omega (arith, job.0, job.1, jobs, drawn, found, long, c.requires.jobs, c.args.jobs.now.few.1, c.loop-job.invariant.few, c.next_job.ensures.counts.0);
    }

pub loop-job-smaller : goal.loop-job-smaller
loop-job-smaller g c =
    let same = ap (λ (p : DeskModel × SeatModel). p.1) c.search-job.ensures.source in
    let raised = ap (λ (s : SeatModel). length s.numbers) c.raise_flag_if.ensures.seat in
    let kept = ap (λ (s : SeatModel). length s.numbers) same in
    let drawn = ap (λ (ns : List ℕ). length ns) c.in-Some.ensures.job.2 in
    let jobs = ap (λ (d : DeskModel). d.jobs) c.loop-job.invariant.desk in
    omega (arith, raised, kept, drawn, length-append c.loop-job.grants.seat.numbers (c.in-Some.job ∷ []), jobs, c.in-Some.ensures.job.0, c.in-Some.ensures.job.1)

pub loop-job-preserved : goal.loop-job-preserved
loop-job-preserved g c =
    let side = c.args.jobs.now.line.now.state.to_move in
    let line = c.args.jobs.now.line.now in
    let limits = c.args.jobs.now.limits in
    let past = c.loop-job.stuck in
    let ended = c.search-job in
    let made = ended.result in
    let end_is = c.dropped_if_lesser_stuck-end.ensures in
    let f : SearchedJob = record { job = made.job; end = c.dropped_if_lesser_stuck-end.result; spent = made.spent } in
    let before = c.next_job.new.grants in
    let searched = ended.new.grants in
    let after = c.raise_flag_if.new.self in
    let won = c.is_win_for_mover.result in
    let desk : searched.desk.now ≡ before.desk.now = ap (λ (p : DeskModel × SeatModel). p.0) ended.ensures.source in
    let seat = ap (λ (p : DeskModel × SeatModel). p.1) ended.ensures.source in
    let same_flag : searched.seat.flag ≡ before.seat.flag = ap (λ (s : SeatModel). s.flag) seat in
    let same_numbers : searched.seat.numbers ≡ before.seat.numbers = ap (λ (s : SeatModel). s.numbers) seat in
    let all : c.push_reserved.new.self.items ≡ c.loop-job.searched.items ++ f ∷ [] = pushed c.loop-job.searched.items c.next_job.new.searched.items c.push_reserved.new.self.items
    f c.push_reserved.ensures.items c.next_job.ensures.searched in
    let this : IsResult line limits f = (
      subst (IsResultOf line limits made.job) (sym end_is) (kept_result line limits made.job past made.end ended.ensures.result.0),
      subst (IsJobCount line limits made.job made.spent) (sym end_is) (kept_count line limits made.job past made.spent made.end ended.ensures.result.1),
    ) in
    let more = All-push (IsResult line limits) c.loop-job.searched.items f c.loop-job.invariant.searched this in
    let down : IsTrue before.seat.flag → ⊥ = λ up. not_none c.next_job.result c.in-Some.job c.in-Some.is (c.next_job.ensures.stopped (left_true before.seat.flag before.seat.saw_flag up)).0 in
    let flag : after.seat.flag ≡ (before.seat.flag || won) =
    flag_of after.seat searched.seat.desk searched.seat.numbers searched.seat.grants (searched.seat.flag || won) searched.seat.saw_flag c.raise_flag_if.ensures.seat ∙ ap (λ b. b || won) same_flag in
    let numbers : after.seat.numbers ≡ before.seat.numbers =
    numbers_of after.seat searched.seat.desk searched.seat.numbers searched.seat.grants (searched.seat.flag || won) searched.seat.saw_flag c.raise_flag_if.ensures.seat ∙ same_numbers in
    let drawn : before.seat.numbers ≡ c.loop-job.grants.seat.numbers ++ made.job ∷ [] =
    c.in-Some.ensures.job.2 ∙ ap (λ n. c.loop-job.grants.seat.numbers ++ n ∷ []) (sym ended.ensures.job) in
    let sum = ap spent_on all in
    let long = ap (λ (l : List SearchedJob). length l) all in
    record {
      desk = c.raise_flag_if.ensures.desk ∙ (desk ∙ (c.next_job.ensures.desk ∙ c.loop-job.invariant.desk));
      jobs = subst (All (λ (h : SearchedJob). h.job < c.args.desk.now.jobs)) (sym all)
          (All-push (λ (h : SearchedJob). h.job < c.args.desk.now.jobs) c.loop-job.searched.items f c.loop-job.invariant.jobs
          (subst (λ n. n < c.args.desk.now.jobs) (sym ended.ensures.job) (subst (λ (d : DeskModel). c.in-Some.job < d.jobs) c.loop-job.invariant.desk c.in-Some.ensures.job.0)));
      spent = omega (
        arith,
        sum,
        sum_by_push (λ (h : SearchedJob). h.spent) c.loop-job.searched.items f,
        c.loop-job.invariant.spent,
        ended.ensures.asks.granted,
        c.next_job.ensures.counts.0,
        c.raise_flag_if.ensures.counts.0,
      );
      few = omega (
        arith,
        long,
        length-append c.loop-job.searched.items (f ∷ []),
        c.loop-job.invariant.few,
        ended.ensures.asks.granted,
        ended.ensures.asks.few,
        c.next_job.ensures.counts.0,
        c.raise_flag_if.ensures.counts.0,
      );
      refused = λ h. c.raise_flag_if.ensures.counts.1 ∙ refused_more c.loop-job.searched.items c.push_reserved.new.self.items f c.loop-job.grants.refused searched.refused all
          (λ stuck. ended.ensures.asks.refused (total_kept past made.end (subst (λ (r : JobResult). IsForTotal (end_of r)) end_is stuck)))
          (λ up. ended.ensures.asks.still (c.next_job.ensures.counts.1 ∙ up)) c.loop-job.invariant.refused h;
      searched = subst (All (IsResult line limits)) (sym all) more;
      wins = subst (WinsAreLast side after.seat.flag) (sym all)
          (wins_more side c.loop-job.grants.seat.flag after.seat.flag c.loop-job.searched.items f (λ up. down (marks_again c.loop-job.grants.seat.flag before.seat.flag c.next_job.ensures.seat.1 up))
          (λ win. (marked after.seat.flag before.seat.flag won flag down).1 (c.is_win_for_mover.ensures.1 (win_before side past made.end (subst
          (IsWinFor side) end_is win)))) c.loop-job.invariant.wins);
      drawn = drawn_more c.args.seat.numbers c.loop-job.grants.seat.numbers before.seat.numbers after.seat.numbers c.loop-job.searched.items c.push_reserved.new.self.items
          f c.loop-job.invariant.drawn drawn numbers all;
      flag = λ up. inr (subst (SomeWin side) (sym all) (last_wins side c.loop-job.searched.items f
          (subst (IsWinFor side) (sym end_is) (win_after side past made.end (c.is_win_for_mover.ensures.0 ((marked after.seat.flag before.seat.flag won flag down).0 up))))));
      stuck = λ up. subst SomeStuck (sym all) (stuck_more c.loop-job.searched.items f past c.loop-job.invariant.stuck (c.was_or_is_stuck-stuck.ensures up));
      kept = subst KeepsFirstStuck (sym all) (kept_more c.loop-job.searched.items f past c.loop-job.invariant.stuck
          (λ down. λ dropped. ended.ensures.whole (subst IsDropped (end_is ∙ ap (λ b. kept_of b made.end) down) dropped)) c.loop-job.invariant.kept);
    }

-- ---- the end

pub returns-clause-drawn : goal.returns-clause-drawn
returns-clause-drawn g c =
    let last = c.next_job.new.grants in
    let overdraw = subst (λ (d : DeskModel). AddsOverdraw d.jobs c.loop-job.grants.seat.numbers last.seat.numbers) c.loop-job.invariant.desk c.in_default.ensures.overdraw in
    subst (λ (s : SeatModel). AddsOverdraw c.args.desk.now.jobs (c.args.seat.numbers ++ jobs_of c.next_job.new.searched.items) s.numbers) (sym c.into_seat-seat.ensures)
    (drawn_all c.args.desk.now.jobs c.args.seat.numbers c.loop-job.grants.seat.numbers last.seat.numbers c.loop-job.searched.items c.next_job.new.searched.items
    c.loop-job.invariant.drawn c.next_job.ensures.searched overdraw)

pub returns-clause-flag : goal.returns-clause-flag
returns-clause-flag g c = λ up.
    (let side = c.args.jobs.now.line.now.state.to_move in
    let flag = ap (λ (s : SeatModel). s.flag) c.into_seat-seat.ensures ∙ c.next_job.ensures.seat.1 in
    subst (λ (l : List SearchedJob). IsTrue c.args.seat.flag ⊎ SomeWin side l) (sym c.next_job.ensures.searched) (c.loop-job.invariant.flag (sym flag ∙ up)))

pub returns-clause-kept : goal.returns-clause-kept
returns-clause-kept g c = subst KeepsFirstStuck (sym c.next_job.ensures.searched) c.loop-job.invariant.kept

pub returns-clause-work : goal.returns-clause-work
returns-clause-work g c =
    let side = c.args.jobs.now.line.now.state.to_move in
    let line = c.args.jobs.now.line.now in
    let limits = c.args.jobs.now.limits in
    let last = c.next_job.new.grants in
    let seat = c.into_seat-seat.ensures in
    let found = sym c.next_job.ensures.searched in
    let desk : last.desk.now ≡ c.args.desk.now = c.next_job.ensures.desk ∙ c.loop-job.invariant.desk in
    let flag = ap (λ (s : SeatModel). s.flag) seat ∙ c.next_job.ensures.seat.1 in
    let tally : Tallies c.args.desk.now.total c.into_seat-seat.result.grants last.granted last.refused =
    subst (λ (s : SeatModel). Tallies c.args.desk.now.total s.grants last.granted last.refused) (sym seat)
    (subst (λ (d : DeskModel). Tallies d.total last.seat.grants last.granted last.refused) desk last.tally) in
    let overdraw = subst (λ (d : DeskModel). AddsOverdraw d.jobs c.loop-job.grants.seat.numbers last.seat.numbers) c.loop-job.invariant.desk c.in_default.ensures.overdraw in
    let drawn = drawn_all c.args.desk.now.jobs c.args.seat.numbers c.loop-job.grants.seat.numbers last.seat.numbers c.loop-job.searched.items c.next_job.new.searched.items
    c.loop-job.invariant.drawn c.next_job.ensures.searched overdraw in
    let sum = ap spent_on c.next_job.ensures.searched in record {
      seat = ap (λ (s : SeatModel). s.desk) seat ∙ (last.ours ∙ ap (λ (d : DeskModel). d.id) desk);
      searched = subst (All (IsResult line limits)) found c.loop-job.invariant.searched;
      wins = subst (λ (b : Bool). WinsAreLast side b c.next_job.new.searched.items) (sym flag) (subst (WinsAreLast side c.loop-job.grants.seat.flag) found c.loop-job.invariant.wins);
      jobs = subst (All (λ (h : SearchedJob). h.job < c.args.desk.now.jobs)) found c.loop-job.invariant.jobs;
      drawn = λ job. times_drawn job c.args.desk.now.jobs c.args.seat.numbers c.into_seat-seat.result.numbers c.next_job.new.searched.items
          (subst (λ (s : SeatModel). AddsOverdraw c.args.desk.now.jobs (c.args.seat.numbers ++ jobs_of c.next_job.new.searched.items) s.numbers) (sym seat) drawn);
      spent = λ total is. omega (arith, sum, c.loop-job.invariant.spent, c.next_job.ensures.counts.0, (tally.1 total is).0);
      refused = λ h. refused_total c.args.desk.now.total c.into_seat-seat.result.grants last.granted last.refused tally
          (c.next_job.ensures.counts.1 ∙ c.loop-job.invariant.refused (subst SomeTotal c.next_job.ensures.searched h));
    }
