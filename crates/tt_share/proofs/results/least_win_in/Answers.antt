use Rattle.std.proofs.Common.{arith, sym, ◌∙◌}
use Rattle.std.proofs.lemmas.Bool.{false≢true}
use Rattle.tt_share.proofs.Wins.{no_win_more, no_win, win_in, won_more, all_won}
use Rattle.tt_share.proofs.results.least_win_in.Goals as goal

pub loop-job-preserved : goal.loop-job-preserved
loop-job-preserved c =
    let ends = c.args.ends.now in
    record {
      lost = no_win_more c.args.side ends c.loop-job.job c.loop-job.invariant.lost
          (λ win. false≢true (sym c.if-is_some_win.false ∙ c.is_some_win.ensures.win.1 (win_in c.args.side ends c.loop-job.job c.index-ends-job.result c.loop-job-test.true c.index-ends-job.is win)));
      won = won_more ends c.loop-job.job c.index-ends-job.result c.loop-job-test.true c.index-ends-job.is c.is_some_win.ensures.won c.loop-job.invariant.won;
    }

pub returns-clause-least : goal.returns-clause-least
returns-clause-least c = no_win c.args.side c.args.ends.now (λ k low. c.loop-job.invariant.lost k (omega (arith, low, c.loop-job-test.false)))

pub returns-clause-won : goal.returns-clause-won
returns-clause-won c = all_won c.args.ends.now (λ k low. c.loop-job.invariant.won k (omega (arith, low, c.loop-job-test.false)))
