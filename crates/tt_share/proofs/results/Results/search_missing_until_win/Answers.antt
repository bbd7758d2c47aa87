use Rattle.std.proofs.Common.{◌∙◌, ◌<◌, ◌+◌, ℕ, sym, ap, subst, arith}
use Rattle.tt_game.specs.declared.frame.Side.{Side}
use Rattle.tt_share.specs.inside.Results.{ResultsSoFar, IsWinAt, StopsAtWin}
use Rattle.tt_share.proofs.Placing.{same_twice, keeps_twice}
use Rattle.tt_share.proofs.Asked.{asked_nothing, asked_twice}
use Rattle.tt_share.proofs.Wins.{ready_by, filled_more, no_win, win_kept, lost_more, same_more, stops_at, stops_never}
use Rattle.tt_share.proofs.results.Results.search_missing_until_win.Goals as goal

pub returns-in-Some-clause-ready : goal.returns-in-Some-clause-ready
returns-in-Some-clause-ready g c = ready_by c.in-Some.ensures

pub returns-then-search_if_missing-clause-kept : goal.returns-then-search_if_missing-clause-kept
returns-then-search_if_missing-clause-kept g c =
    keeps_twice c.args.self.now.ends c.loop-job.self.ends c.search_if_missing.new.self.ends c.loop-job.invariant.kept c.search_if_missing.ensures.kept

pub returns-then-search_if_missing-clause-won : goal.returns-then-search_if_missing-clause-won
returns-then-search_if_missing-clause-won g c = λ job win. absurd (c.in_default.ensures job win)

pub returns-then-search_if_missing-clause-stops : goal.returns-then-search_if_missing-clause-stops
returns-then-search_if_missing-clause-stops g c =
    let old = c.loop-job.self in
    let new = c.search_if_missing.new.self in
    let side = ap (λ (p : ResultsSoFar). p.line.state.to_move) c.search_if_missing.ensures.same in
    subst (λ (s : Side). StopsAtWin s c.args.self.now.ends new.ends) (sym side)
    (stops_at old.line.state.to_move c.args.self.now.ends old.ends new.ends c.loop-job.job c.loop-job.invariant.lost c.loop-job.invariant.rest c.search_if_missing.ensures.others)

pub returns-clause-won : goal.returns-clause-won
returns-clause-won g c = λ job win. absurd (c.in_default.ensures job win)

pub returns-clause-stops : goal.returns-clause-stops
returns-clause-stops g c =
    let now = c.loop-job.self in
    let none = no_win now.line.state.to_move now.ends (λ k low. c.loop-job.invariant.lost k (omega (arith, low, c.loop-job-test.false, c.job_count-job-end.ensures, c.loop-job.invariant.len))) in
    stops_never now.line.state.to_move c.args.self.now.ends now.ends none

pub loop-job-preserved : goal.loop-job-preserved
loop-job-preserved g c =
    let first = c.args.self.now in
    let old = c.loop-job.self in
    let new = c.search_if_missing.new.self in
    let side = ap (λ (p : ResultsSoFar). p.line.state.to_move) c.search_if_missing.ensures.same in
    let begun = ap (λ (p : ResultsSoFar). p.line.state.to_move) c.loop-job.invariant.same in
    let before : ¬ IsWinAt first.line.state.to_move old.ends c.loop-job.job = λ win. c.in_default.ensures c.loop-job.job
    (win_kept first.line.state.to_move first.ends old.ends c.loop-job.job (c.loop-job.invariant.rest c.loop-job.job (omega arith)) win) in
    let this : ¬ IsWinAt old.line.state.to_move new.ends c.loop-job.job = λ win. before
    (subst (λ (s : Side). IsWinAt s old.ends c.loop-job.job) begun (c.search_if_missing.ensures.lost c.if-search_if_missing.false win)) in
    let lost : (k : ℕ) → k < c.loop-job.job + 1
    → ¬ IsWinAt old.line.state.to_move new.ends k = lost_more old.line.state.to_move old.ends new.ends c.loop-job.job c.loop-job.invariant.lost c.search_if_missing.ensures.others this in
    record {
      same = same_twice first old new c.loop-job.invariant.same c.search_if_missing.ensures.same;
      asks = asked_twice first old new (g.G.Grants.asked c.args.grants.now) (g.G.Grants.asked c.loop-job.grants) (g.G.Grants.asked c.search_if_missing.new.grants)
          c.loop-job.invariant.asks c.search_if_missing.ensures.asks;
      few = omega (arith, c.loop-job.invariant.few, c.search_if_missing.ensures.few);
      source = c.search_if_missing.ensures.source ∙ c.loop-job.invariant.source;
      len = c.search_if_missing.ensures.len ∙ c.loop-job.invariant.len;
      kept = keeps_twice first.ends old.ends new.ends c.loop-job.invariant.kept c.search_if_missing.ensures.kept;
      filled = filled_more old.ends new.ends c.loop-job.job c.loop-job.invariant.filled c.search_if_missing.ensures.others c.search_if_missing.ensures.filled;
      lost = subst (λ (s : Side). (k : ℕ) → k < c.loop-job.job + 1 → ¬ IsWinAt s new.ends k) (sym side) lost;
      rest = same_more first.ends old.ends new.ends c.loop-job.job c.loop-job.invariant.rest c.search_if_missing.ensures.others;
    }

pub returns-in-Some-clause-asks : goal.returns-in-Some-clause-asks
returns-in-Some-clause-asks g c = asked_nothing c.args.self.now (g.G.Grants.asked c.args.grants.now)

pub returns-then-search_if_missing-clause-asks : goal.returns-then-search_if_missing-clause-asks
returns-then-search_if_missing-clause-asks g c =
    asked_twice c.args.self.now c.loop-job.self c.search_if_missing.new.self (g.G.Grants.asked c.args.grants.now) (g.G.Grants.asked c.loop-job.grants) (g.G.Grants.asked c.search_if_missing.new.grants)
    c.loop-job.invariant.asks c.search_if_missing.ensures.asks
