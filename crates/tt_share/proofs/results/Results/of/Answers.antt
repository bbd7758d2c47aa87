use Rattle.std.proofs.Common.{rules, ◌≡◌, ℕ, [], ◌∷◌, ◌++◌, List, Option, None, length, sym, ap, ◌∙◌, subst, arith}
use Rattle.std.proofs.lemmas.List.{replicate_more, length-map}
use Rattle.tt_game.specs.declared.turns.Turn.{Turn}
use Rattle.tt_share.specs.declared.jobs.JobResult.{JobResult}
use Rattle.tt_share.specs.inside.Jobs.{AreResults}
use Rattle.tt_share.proofs.Noting.{blank_noted, blank_sum}
use Rattle.tt_share.proofs.ResultLemmas.{none_more}
use Rattle.tt_share.proofs.results.Results.of.Goals as goal

pub loop-preserved : goal.loop-preserved
loop-preserved c =
    let was = c.loop.invariant in
    let line = c.of-jobs.result.line.now in
    let limits = c.of-jobs.result.limits in
    record {
      len = search rules;
      room = search rules;
      none = c.push_reserved.ensures.items ∙ (ap (λ (l : List (Option JobResult)). l ++ None ∷ []) was.none ∙ replicate_more c.loop.counter None);
      are = subst (AreResults line limits) (sym c.push_reserved.ensures.items) (none_more line limits c.loop.ends.items was.are);
    }

pub invariant_of-result : goal.invariant_of-result
invariant_of-result c =
    let jobs = c.of-jobs.result in
    let all = c.in_ok-spent.ensures.turns ∙ (c.as_slice.ensures.value ∙ jobs.listed) in
    let turns = ap (λ (ts : List Turn). length ts) (c.in_ok-spent.ensures.turns ∙ c.as_slice.ensures.value) in
    let each : length c.in_ok-spent.spent.items ≡ length c.loop.ends.items = omega (
      arith,
      turns,
      length-map c.in_ok-spent.spent.items (λ (e : Turn × ℕ). e.0),
      c.loop.invariant.len,
      c.loop.ends.ok.0,
      c.loop-test.false,
      c.len-count.ensures,
    ) in record {
      are = c.loop.invariant.are;
      noted = blank_noted jobs.line.now jobs.limits c.loop.ends.items c.in_ok-spent.spent.items c.loop.counter all each c.in_ok-spent.ensures.none c.loop.invariant.none;
      one_each = search rules;
    }

pub returns-clause-unspent : goal.returns-clause-unspent
returns-clause-unspent c = blank_sum c.in_ok-spent.spent.items c.in_ok-spent.ensures.none
