use Rattle.std.proofs.Common.{subst}
use Rattle.tt_share.specs.Answers.{AreSearchCounts}
use Rattle.tt_share.specs.inside.Results.{ResultsSoFar}
use Rattle.tt_share.proofs.Noting.{search_counts}
use Rattle.tt_share.proofs.alone.conclude_and_offer.Goals as goal

pub returns-in-Ok-clause-counts : goal.returns-in-Ok-clause-counts
returns-in-Ok-clause-counts g c =
    let inside = c.results.inside in
    subst (λ (p : ResultsSoFar). AreSearchCounts p.line p.limits p.spent) c.results.view_is
    (search_counts inside.jobs.line.now inside.jobs.limits inside.ends.items inside.spent.items inside.jobs.deep c.results.invariant.noted)

pub returns-in-Err-clause-answer : goal.returns-in-Err-clause-answer
returns-in-Err-clause-answer g c = λ total keeps. c.no_memory_answer.ensures c.args.results.line c.args.results.limits total

pub returns-in-Err-clause-counts : goal.returns-in-Err-clause-counts
returns-in-Err-clause-counts g c =
    let inside = c.results.inside in
    subst (λ (p : ResultsSoFar). AreSearchCounts p.line p.limits p.spent) c.results.view_is
    (search_counts inside.jobs.line.now inside.jobs.limits inside.ends.items inside.spent.items inside.jobs.deep c.results.invariant.noted)
