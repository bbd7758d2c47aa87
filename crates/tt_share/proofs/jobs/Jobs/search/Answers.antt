use Rattle.std.proofs.Common.{arith}
use Rattle.tt_share.proofs.Counting.{made_behind, made_counted, made_asks, none_begun, spent_more}
use Rattle.tt_share.proofs.jobs.Jobs.search.Goals as goal

pub overflow_sub-spent : goal.overflow_sub-spent
overflow_sub-spent g c =
    let old = g.G.Grants.asked c.args.grants.now in
    let new = g.G.Grants.asked c.run.new.grants in
    let more = spent_more c.in-Ok.search old new c.run.result c.in-Ok.ensures.new c.run.ensures.spent in
    omega (arith, more, c.granted-before.ensures, c.granted.ensures)

pub returns-in-Ok-clause-result : goal.returns-in-Ok-clause-result
returns-in-Ok-clause-result g c =
    let line = c.args.self.now.line.now in
    let limits = c.args.self.now.limits in
    let start = c.in-Ok.search in
    let old = g.G.Grants.asked c.args.grants.now in
    let new = g.G.Grants.asked c.run.new.grants in
    let more = spent_more start old new c.run.result c.in-Ok.ensures.new c.run.ensures.spent in (
      λ t at. made_behind line limits t start (c.in-Ok.ensures.behind t at) c.in-Ok.ensures.new c.run.result c.result_of-end.result c.result_of-end.ensures.end c.run.ensures.end,
      λ t at. made_counted line limits t start (c.in-Ok.ensures.behind t at) c.in-Ok.ensures.new c.run.result c.result_of-end.result c.result_of-end.ensures.end c.run.ensures.end old new _
          c.run.ensures.spent (omega (arith, more, c.granted-before.ensures, c.granted.ensures)),
    )

pub returns-in-Ok-clause-asks : goal.returns-in-Ok-clause-asks
returns-in-Ok-clause-asks g c =
    let start = c.in-Ok.search in
    let old = g.G.Grants.asked c.args.grants.now in
    let new = g.G.Grants.asked c.run.new.grants in
    let more = spent_more start old new c.run.result c.in-Ok.ensures.new c.run.ensures.spent in
    made_asks start old new c.run.result c.result_of-end.result _ c.result_of-end.ensures.end c.run.ensures.spent (omega (arith, more, c.granted-before.ensures, c.granted.ensures))
    (omega (arith, more, c.granted-before.ensures, c.granted.ensures, c.run.ensures.few, start.limits.budget_in))

pub returns-in-Err-clause-result : goal.returns-in-Err-clause-result
returns-in-Err-clause-result g c =
    let jobs = c.args.self.now in (λ t at. tt, λ t at. (none_begun jobs.line.now jobs.limits t jobs.deep, tt))
