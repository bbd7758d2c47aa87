use Rattle.std.proofs.Common.{◌≡◌, ◌<◌, ◌∷◌, ◌++◌, [], Some, Option, IfOk, refl, sym, ap, ◌∙◌, subst, arith, List, slice_get, length, length-append}
use Rattle.tt_game.specs.declared.turns.Turn.{Turn}
use Rattle.tt_game.specs.Turns.{legal_turns}
use Rattle.tt_proof.specs.ProofClaim.{ProofClaim}
use Rattle.tt_search.specs.SearchState.{SearchState}
use Rattle.tt_search.specs.declared.limits.Reason.{Reason}
use Rattle.tt_share.specs.declared.jobs.JobResult.{JobResult}
use Rattle.tt_search.specs.declared.search.End.TheVariants.{Settled, Stuck}
use Rattle.tt_share.specs.declared.jobs.JobResult.TheVariants as result
use Rattle.tt_share.specs.inside.Beginning.{BeginsWith}
use Rattle.tt_share.specs.inside.Jobs.{AreResults, EndsBehind, IsJob, IsStuckOrWon, end_of}
use Rattle.tt_share.specs.Answers.{IsAnswer, counts_if_total_spent_of}
use Rattle.tt_share.specs.inside.Results.{ResultsSoFar, AreNoted, HasEnd, HaveLost, IsLost, AllStuckOrWon, NoWin, IsStuckAt}
use Rattle.tt_share.proofs.Lost.{legal_job, lesser_lose, one_more}
use Rattle.tt_share.proofs.Placing.{seen, shown}
use Rattle.tt_share.proofs.Noting.{spent_told, within_told}
use Rattle.tt_share.proofs.StuckBehind.{says}
use Rattle.tt_share.proofs.Wins.{all_filled, none_at, least_at, same_turn, stuck_same, same_stuck, settled_here, not_stuck_more, stuck_of, settled_of, stuck_there}
use Rattle.tt_share.proofs.Wins.{stuck_within, job_here, rest_same, not_missing, lost_side, win_within, ends_here}
use Rattle.tt_share.proofs.results.Results.conclude.Goals as goal

pub answer_by_winning_turn-requires-clause-legal : goal.answer_by_winning_turn-requires-clause-legal
answer_by_winning_turn-requires-clause-legal c =
    let within : c.in-Some.job < length c.as_slice-turns.result.now =
    (let wins = win_within c.to_move.result c.as_slice.result.now c.in-Some.job c.in-Some.ensures.least.wins in
    let ends = ap (λ (l : List (Option JobResult)). length l) c.as_slice.ensures.value in
    let turns = ap (λ (l : List Turn). length l) c.as_slice-turns.ensures.value in
    omega (arith, wins, ends, turns, c.self.inside.ends.ok.0, c.self.invariant.one_each)) in
    let job : IsJob c.self.inside.jobs.line.now c.in-Some.job c.index-turns-job.result =
    job_here c.self.inside.jobs.line.now c.as_slice-turns.result.now c.in-Some.job c.in-Some.job c.index-turns-job.result
    (c.as_slice-turns.ensures.value ∙ c.self.inside.jobs.listed) refl within c.index-turns-job.is in
    legal_job c.self.inside.jobs.line.now c.in-Some.job c.index-turns-job.result job

pub answer_by_winning_turn-requires-clause-child : goal.answer_by_winning_turn-requires-clause-child
answer_by_winning_turn-requires-clause-child c =
    let within : c.in-Some.job < length c.as_slice-turns.result.now =
    (let wins = win_within c.to_move.result c.as_slice.result.now c.in-Some.job c.in-Some.ensures.least.wins in
    let ends = ap (λ (l : List (Option JobResult)). length l) c.as_slice.ensures.value in
    let turns = ap (λ (l : List Turn). length l) c.as_slice-turns.ensures.value in
    omega (arith, wins, ends, turns, c.self.inside.ends.ok.0, c.self.invariant.one_each)) in
    let job : IsJob c.self.inside.jobs.line.now c.in-Some.job c.index-turns-job.result =
    job_here c.self.inside.jobs.line.now c.as_slice-turns.result.now c.in-Some.job c.in-Some.job c.index-turns-job.result
    (c.as_slice-turns.ensures.value ∙ c.self.inside.jobs.listed) refl within c.index-turns-job.is in
    let taken = c.in-Some-Settled.ensures.taken in
    ends_here c.self.inside.jobs.line.now c.self.inside.jobs.limits c.in-Some.job c.index-turns-job.result taken.0 _ (sym taken.2 ∙ c.in-Some-Settled.field-0-is)
    (c.self.invariant.are c.in-Some.job taken.0 taken.1) job

pub returns-in-Some-clause-picks : goal.returns-in-Some-clause-picks
returns-in-Some-clause-picks c =
    let side : c.to_move.result ≡ c.args.self.line.state.to_move = c.to_move.ensures ∙ ap (λ (p : ResultsSoFar). p.line.state.to_move) c.self.view_is in
    let ends : c.as_slice.result.now ≡ c.args.self.ends = c.as_slice.ensures.value ∙ ap (λ (p : ResultsSoFar). p.ends) c.self.view_is in
    let least = least_at c.args.self.line.state.to_move c.to_move.result c.args.self.ends c.as_slice.result.now c.in-Some.job side ends c.in-Some.ensures.least in
    let turns : c.as_slice-turns.result.now ≡ legal_turns c.args.self.line.frame c.args.self.line.state =
    c.as_slice-turns.ensures.value ∙ (c.self.inside.jobs.listed ∙ ap (λ (p : ResultsSoFar). legal_turns p.line.frame p.line.state) c.self.view_is) in
    λ job turn win at.
    subst (λ (t : Turn). IfOk c.answer_by_winning_turn.result (BeginsWith (Some t)))
    (same_turn c.args.self.line.state.to_move c.args.self.ends c.as_slice-turns.result.now c.in-Some.job c.index-turns-job.result least c.index-turns-job.is job turn win
    (subst (λ (ts : List Turn). slice_get ts job ≡ Some turn) (sym turns) at))
    c.answer_by_winning_turn.ensures.begins

pub returns-in-Some-clause-stuck : goal.returns-in-Some-clause-stuck
returns-in-Some-clause-stuck c =
    let side : c.to_move.result ≡ c.args.self.line.state.to_move = c.to_move.ensures ∙ ap (λ (p : ResultsSoFar). p.line.state.to_move) c.self.view_is in
    let ends : c.as_slice.result.now ≡ c.args.self.ends = c.as_slice.ensures.value ∙ ap (λ (p : ResultsSoFar). p.ends) c.self.view_is in
    let least = least_at c.args.self.line.state.to_move c.to_move.result c.args.self.ends c.as_slice.result.now c.in-Some.job side ends c.in-Some.ensures.least in
    λ job turn reason search none stuck at. absurd (none c.in-Some.job least.wins)

pub returns-in-Some-clause-replies : goal.returns-in-Some-clause-replies
returns-in-Some-clause-replies c =
    let side : c.to_move.result ≡ c.args.self.line.state.to_move = c.to_move.ensures ∙ ap (λ (p : ResultsSoFar). p.line.state.to_move) c.self.view_is in
    let ends : c.as_slice.result.now ≡ c.args.self.ends = c.as_slice.ensures.value ∙ ap (λ (p : ResultsSoFar). p.ends) c.self.view_is in
    let least = least_at c.args.self.line.state.to_move c.to_move.result c.args.self.ends c.as_slice.result.now c.in-Some.job side ends c.in-Some.ensures.least in
    λ none unstuck. absurd (none c.in-Some.job least.wins)

pub returns-in-Some-Stuck-clause-answer : goal.returns-in-Some-Stuck-clause-answer
returns-in-Some-Stuck-clause-answer c =
    let turns : c.as_slice-turns.result.now ≡ legal_turns c.args.self.line.frame c.args.self.line.state =
    c.as_slice-turns.ensures.value ∙ (c.self.inside.jobs.listed ∙ ap (λ (p : ResultsSoFar). legal_turns p.line.frame p.line.state) c.self.view_is) in
    let i = c.loop-job.job in
    let turn = c.index-turns-job-in-loop-job.result in
    let are : AreResults c.args.self.line c.args.self.limits c.args.self.ends = shown
    (λ l m es. AreResults l m es) c.self.inside.jobs.line.now c.self.inside.jobs.limits c.self.inside.ends.items c.self.inside.spent.items c.args.self c.self.view_is c.self.invariant.are in
    let job : IsJob c.args.self.line i turn = job_here c.args.self.line c.as_slice-turns.result.now i i turn turns refl c.loop-job-test.true c.index-turns-job-in-loop-job.is in
    let next : IsJob c.args.self.line (length c.loop-job.children.items) turn =
    job_here c.args.self.line c.as_slice-turns.result.now i (length c.loop-job.children.items) turn turns
    (sym c.loop-job.children.ok.0 ∙ c.loop-job.invariant.noted) c.loop-job-test.true c.index-turns-job-in-loop-job.is in
    let taken = c.in-Some-Stuck.ensures.taken in
    let there : HasEnd c.args.self.ends i taken.0 = ap (λ (p : ResultsSoFar). slice_get p.ends i) (sym c.self.view_is) ∙ (sym (c.loop-job.invariant.same i (omega arith)) ∙ taken.1) in
    let is : end_of taken.0 ≡ Stuck c.in-Some-Stuck.reason c.in-Some-Stuck.search = sym taken.2 ∙ c.in-Some-Stuck.field-0-is in
    let behind = ends_here c.args.self.line c.args.self.limits i turn taken.0 _ is (are i taken.0 there) job in
    let lesser = lesser_lose c.args.self.line c.args.self.limits c.loop-job.children.items turn next c.loop-job.invariant.lost in
    let side : c.to_move.result ≡ c.args.self.line.state.to_move = c.to_move.ensures ∙ ap (λ (p : ResultsSoFar). p.line.state.to_move) c.self.view_is in
    let ends : c.as_slice.result.now ≡ c.args.self.ends = c.as_slice.ensures.value ∙ ap (λ (p : ResultsSoFar). p.ends) c.self.view_is in
    let none : NoWin c.args.self.line.state.to_move c.args.self.ends = none_at c.args.self.line.state.to_move c.to_move.result c.args.self.ends c.as_slice.result.now
    side ends c.in_default.ensures.least in
    let noted = subst (λ (p : ResultsSoFar). AreNoted p.line p.limits p.ends p.spent) c.self.view_is c.self.invariant.noted in
    let counts_if_total_spent = c.counts_if_total_spent.ensures ∙ ap (λ (p : ResultsSoFar). counts_if_total_spent_of c.in-Some-Stuck.reason p.spent) c.self.view_is in
    let filled = all_filled c.args.self.line.state.to_move c.args.self.ends none c.requires.ready in
    let reason = c.in-Some-Stuck.reason in
    λ total keeps. says c.args.self.line c.args.self.limits total _
    (legal_job c.args.self.line i turn job) lesser c.args.self.spent reason c.in-Some-Stuck.search refl behind counts_if_total_spent
    (λ held holds. within_told c.args.self total i turn held taken.0 reason noted filled there (is ∙ ap (λ (o : Option SearchState). Stuck reason o) holds) job keeps)
    (λ held e holds. spent_told c.args.self total i turn held taken.0 reason noted filled there (is ∙ ap (λ (o : Option SearchState). Stuck reason o) holds) job keeps e)

pub returns-in-Some-Stuck-clause-picks : goal.returns-in-Some-Stuck-clause-picks
returns-in-Some-Stuck-clause-picks c =
    let side : c.to_move.result ≡ c.args.self.line.state.to_move = c.to_move.ensures ∙ ap (λ (p : ResultsSoFar). p.line.state.to_move) c.self.view_is in
    let ends : c.as_slice.result.now ≡ c.args.self.ends = c.as_slice.ensures.value ∙ ap (λ (p : ResultsSoFar). p.ends) c.self.view_is in
    let none : NoWin c.args.self.line.state.to_move c.args.self.ends = none_at c.args.self.line.state.to_move c.to_move.result c.args.self.ends c.as_slice.result.now
    side ends c.in_default.ensures.least in
    λ job turn win at. absurd (none job win.wins)

pub returns-in-Some-Stuck-clause-stuck : goal.returns-in-Some-Stuck-clause-stuck
returns-in-Some-Stuck-clause-stuck c =
    let turns : c.as_slice-turns.result.now ≡ legal_turns c.args.self.line.frame c.args.self.line.state =
    c.as_slice-turns.ensures.value ∙ (c.self.inside.jobs.listed ∙ ap (λ (p : ResultsSoFar). legal_turns p.line.frame p.line.state) c.self.view_is) in
    let i = c.loop-job.job in
    let turn = c.index-turns-job-in-loop-job.result in
    let are : AreResults c.args.self.line c.args.self.limits c.args.self.ends = shown
    (λ l m es. AreResults l m es) c.self.inside.jobs.line.now c.self.inside.jobs.limits c.self.inside.ends.items c.self.inside.spent.items c.args.self c.self.view_is c.self.invariant.are in
    let job : IsJob c.args.self.line i turn = job_here c.args.self.line c.as_slice-turns.result.now i i turn turns refl c.loop-job-test.true c.index-turns-job-in-loop-job.is in
    let next : IsJob c.args.self.line (length c.loop-job.children.items) turn =
    job_here c.args.self.line c.as_slice-turns.result.now i (length c.loop-job.children.items) turn turns
    (sym c.loop-job.children.ok.0 ∙ c.loop-job.invariant.noted) c.loop-job-test.true c.index-turns-job-in-loop-job.is in
    let taken = c.in-Some-Stuck.ensures.taken in
    let there : HasEnd c.args.self.ends i taken.0 = ap (λ (p : ResultsSoFar). slice_get p.ends i) (sym c.self.view_is) ∙ (sym (c.loop-job.invariant.same i (omega arith)) ∙ taken.1) in
    let is : end_of taken.0 ≡ Stuck c.in-Some-Stuck.reason c.in-Some-Stuck.search = sym taken.2 ∙ c.in-Some-Stuck.field-0-is in
    let counts_if_total_spent = c.counts_if_total_spent.ensures ∙ ap (λ (p : ResultsSoFar). counts_if_total_spent_of c.in-Some-Stuck.reason p.spent) c.self.view_is in
    λ other t reason search none least at.
    (let here : IsStuckAt c.args.self.ends i = (taken.0, there, stuck_of taken.0 c.in-Some-Stuck.reason c.in-Some-Stuck.search is) in
    let same = same_stuck c.args.self.line c.args.self.ends i other turn t c.in-Some-Stuck.reason reason c.in-Some-Stuck.search search taken.0
    (stuck_same c.args.self.ends i other reason search here c.loop-job.invariant.unstuck least) there is least job at in
    (same.0, same.1, same.2, counts_if_total_spent ∙ ap (λ (r : Reason). counts_if_total_spent_of r c.args.self.spent) same.1))

pub returns-in-Some-Stuck-clause-replies : goal.returns-in-Some-Stuck-clause-replies
returns-in-Some-Stuck-clause-replies c =
    let i = c.loop-job.job in
    let taken = c.in-Some-Stuck.ensures.taken in
    let there : HasEnd c.args.self.ends i taken.0 = ap (λ (p : ResultsSoFar). slice_get p.ends i) (sym c.self.view_is) ∙ (sym (c.loop-job.invariant.same i (omega arith)) ∙ taken.1) in
    let is : end_of taken.0 ≡ Stuck c.in-Some-Stuck.reason c.in-Some-Stuck.search = sym taken.2 ∙ c.in-Some-Stuck.field-0-is in
    λ none unstuck. unstuck i (taken.0, there, stuck_of taken.0 c.in-Some-Stuck.reason c.in-Some-Stuck.search is)

pub unreachable-requires-in-None : goal.unreachable-requires-in-None
unreachable-requires-in-None c =
    let side : c.to_move.result ≡ c.args.self.line.state.to_move = c.to_move.ensures ∙ ap (λ (p : ResultsSoFar). p.line.state.to_move) c.self.view_is in
    let ends : c.as_slice.result.now ≡ c.args.self.ends = c.as_slice.ensures.value ∙ ap (λ (p : ResultsSoFar). p.ends) c.self.view_is in
    let none : NoWin c.args.self.line.state.to_move c.args.self.ends = none_at c.args.self.line.state.to_move c.to_move.result c.args.self.ends c.as_slice.result.now
    side ends c.in_default.ensures.least in
    let i = c.loop-job.job in
    let long : length c.self.inside.ends.items ≡ length c.args.self.ends = ap (λ (p : ResultsSoFar). length p.ends) c.self.view_is in
    let all = ap (λ (l : List Turn). length l) c.as_slice-turns.ensures.value in
    let within : i < length c.args.self.ends = omega (arith, c.loop-job-test.true, long, all, c.self.inside.ends.ok.0, c.self.invariant.one_each) in
    let same : slice_get c.loop-job.ends.items i ≡ slice_get c.args.self.ends i = c.loop-job.invariant.same i (omega arith) ∙ ap (λ (p : ResultsSoFar). slice_get p.ends i) c.self.view_is in
    not_missing c.args.self.line.state.to_move c.args.self.ends c.loop-job.ends.items i none c.requires.ready within same c.in-None.ensures.taken

pub loop-job-preserved : goal.loop-job-preserved
loop-job-preserved c =
    let side : c.to_move.result ≡ c.args.self.line.state.to_move = c.to_move.ensures ∙ ap (λ (p : ResultsSoFar). p.line.state.to_move) c.self.view_is in
    let ends : c.as_slice.result.now ≡ c.args.self.ends = c.as_slice.ensures.value ∙ ap (λ (p : ResultsSoFar). p.ends) c.self.view_is in
    let none : NoWin c.args.self.line.state.to_move c.args.self.ends = none_at c.args.self.line.state.to_move c.to_move.result c.args.self.ends c.as_slice.result.now
    side ends c.in_default.ensures.least in
    let turns : c.as_slice-turns.result.now ≡ legal_turns c.args.self.line.frame c.args.self.line.state =
    c.as_slice-turns.ensures.value ∙ (c.self.inside.jobs.listed ∙ ap (λ (p : ResultsSoFar). legal_turns p.line.frame p.line.state) c.self.view_is) in
    let i = c.loop-job.job in
    let turn = c.index-turns-job-in-loop-job.result in
    let are : AreResults c.args.self.line c.args.self.limits c.args.self.ends = shown
    (λ l m es. AreResults l m es) c.self.inside.jobs.line.now c.self.inside.jobs.limits c.self.inside.ends.items c.self.inside.spent.items c.args.self c.self.view_is c.self.invariant.are in
    let job : IsJob c.args.self.line i turn = job_here c.args.self.line c.as_slice-turns.result.now i i turn turns refl c.loop-job-test.true c.index-turns-job-in-loop-job.is in
    let next : IsJob c.args.self.line (length c.loop-job.children.items) turn =
    job_here c.args.self.line c.as_slice-turns.result.now i (length c.loop-job.children.items) turn turns
    (sym c.loop-job.children.ok.0 ∙ c.loop-job.invariant.noted) c.loop-job-test.true c.index-turns-job-in-loop-job.is in
    let taken = c.in-Some-Settled-take_end.ensures.taken in
    let there : HasEnd c.args.self.ends i taken.0 = ap (λ (p : ResultsSoFar). slice_get p.ends i) (sym c.self.view_is) ∙ (sym (c.loop-job.invariant.same i (omega arith)) ∙ taken.1) in
    let child = c.in-Some-Settled-take_end.child in
    let is : end_of taken.0 ≡ Settled child = sym taken.2 ∙ c.in-Some-Settled-take_end.field-0-is in
    let behind : EndsBehind c.args.self.line c.args.self.limits turn (Settled child) = ends_here c.args.self.line c.args.self.limits i turn taken.0 (Settled child) is (are i taken.0 there) job in
    let won : IsStuckOrWon (result.Settled child) = subst IsStuckOrWon (settled_of taken.0 child is) (subst AllStuckOrWon ends c.in_default.ensures.won i taken.0 there) in
    let this : IsLost c.args.self.line c.args.self.limits (turn, child) =
    record { stands = behind.0; side = lost_side c.args.self.line.state.to_move c.args.self.ends i taken.0 child none is there; shallow = behind.1; wins = won } in
    let more = one_more c.args.self.line c.args.self.limits c.loop-job.children.items (turn, child) c.loop-job.invariant.lost next this in
    let all : c.push.new.self.items ≡ c.loop-job.children.items ++ (turn, child) ∷ [] = c.in_ok-push-in-Some-Settled-take_end.ensures.items in
    let long = ap (λ (l : List (Turn × ProofClaim)). length l) all in
    record {
      lost = subst (HaveLost c.args.self.line c.args.self.limits) (sym all) more;
      noted = omega (arith, long, length-append c.loop-job.children.items ((turn, child) ∷ []), c.push.new.self.ok.0, c.loop-job.children.ok.0, c.loop-job.invariant.noted);
      len = c.take_end-in-loop-job.ensures.len ∙ c.loop-job.invariant.len;
      same = rest_same c.self.inside.ends.items c.loop-job.ends.items c.take_end-in-loop-job.new.ends.items i c.loop-job.invariant.same c.take_end-in-loop-job.ensures.rest;
      unstuck = not_stuck_more c.args.self.ends i c.loop-job.invariant.unstuck (settled_here c.args.self.ends i taken.0 child there is);
    }

pub answer_by_lost_turns-requires-clause-lost : goal.answer_by_lost_turns-requires-clause-lost
answer_by_lost_turns-requires-clause-lost c =
    seen (λ l m. HaveLost l m c.loop-job.children.items) c.self.inside.jobs.line.now c.self.inside.jobs.limits c.self.inside.ends.items c.self.inside.spent.items c.args.self c.self.view_is
    c.loop-job.invariant.lost

pub answer_by_lost_turns-requires-clause-all : goal.answer_by_lost_turns-requires-clause-all
answer_by_lost_turns-requires-clause-all c =
    let all = ap (λ (l : List Turn). length l) (c.as_slice-turns.ensures.value ∙ c.self.inside.jobs.listed) in
    omega (arith, all, c.loop-job.invariant.noted, c.loop-job-test.false)

pub returns-clause-picks : goal.returns-clause-picks
returns-clause-picks c =
    let side : c.to_move.result ≡ c.args.self.line.state.to_move = c.to_move.ensures ∙ ap (λ (p : ResultsSoFar). p.line.state.to_move) c.self.view_is in
    let ends : c.as_slice.result.now ≡ c.args.self.ends = c.as_slice.ensures.value ∙ ap (λ (p : ResultsSoFar). p.ends) c.self.view_is in
    let none : NoWin c.args.self.line.state.to_move c.args.self.ends = none_at c.args.self.line.state.to_move c.to_move.result c.args.self.ends c.as_slice.result.now
    side ends c.in_default.ensures.least in
    λ job turn win at. absurd (none job win.wins)

pub returns-clause-stuck : goal.returns-clause-stuck
returns-clause-stuck c =
    let long : length c.self.inside.ends.items ≡ length c.args.self.ends = ap (λ (p : ResultsSoFar). length p.ends) c.self.view_is in
    let all = ap (λ (l : List Turn). length l) c.as_slice-turns.ensures.value in
    λ job turn reason search none stuck at.
    (let here : IsStuckAt c.args.self.ends job = stuck_there c.args.self.ends job reason search stuck in
    let within = stuck_within c.args.self.ends job here in
    absurd (c.loop-job.invariant.unstuck job (omega (arith, within, long, all, c.self.inside.ends.ok.0, c.self.invariant.one_each, c.loop-job-test.false)) here))

pub returns-in-Some-clause-answer : goal.returns-in-Some-clause-answer
returns-in-Some-clause-answer c = λ total keeps. shown
    (λ l m es. IfOk c.answer_by_winning_turn.result (IsAnswer l m total))
    c.self.inside.jobs.line.now c.self.inside.jobs.limits c.self.inside.ends.items c.self.inside.spent.items c.args.self c.self.view_is
    (c.answer_by_winning_turn.ensures.answer total)

pub returns-clause-answer : goal.returns-clause-answer
returns-clause-answer c = λ total keeps. shown
    (λ l m es. IfOk c.answer_by_lost_turns.result (IsAnswer l m total))
    c.self.inside.jobs.line.now c.self.inside.jobs.limits c.self.inside.ends.items c.self.inside.spent.items c.args.self c.self.view_is
    (c.answer_by_lost_turns.ensures.answer total)
