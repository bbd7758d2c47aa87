use Rattle.std.proofs.Common.{◌∷◌, All, Some, ◌∙◌, arith}
use Rattle.std.proofs.lemmas.List.Elements.{All-pop}
use Rattle.tt_share.specs.inside.Jobs.{IsResult}
use Rattle.tt_share.specs.inside.Workers.{IsPlaced}
use Rattle.tt_share.proofs.Placing.{same_asked, same_twice, keeps, slots, keeps_twice, all_still, all_more, taken_more, taken_there, given_more}
use Rattle.tt_share.proofs.Apart.{held_fewer, spent_fewer}
use Rattle.tt_share.proofs.workers.gather_one_worker.Goals as goal

pub loop-one-preserved : goal.loop-one-preserved
loop-one-preserved c =
    let old = c.loop-one.results in
    let new = c.put_if_missing.new.self in
    let one = c.in-Some.one in
    let both = All-pop (IsResult old.line old.limits) _ _ (Some one) c.in-Some.ensures.items c.loop-one.invariant.left in
    let kept = keeps old.ends new.ends one c.put_if_missing.ensures.puts in
    let was = c.loop-one.invariant.placed in
    record {
      left = same_asked (λ line limits. All (IsResult line limits) c.pop.new.self.items) old new c.put_if_missing.ensures.same both.0;
      same = same_twice c.args.results.now old new c.loop-one.invariant.same c.put_if_missing.ensures.same;
      spent = λ apart.
          (let most = apart one.job in
          spent_fewer old new one c.loop-one.searched.items c.pop.new.self.items _ c.in-Some.ensures.items (omega (arith, most, c.loop-one.invariant.held one.job)) c.put_if_missing.ensures.notes
          (c.loop-one.invariant.spent apart));
      held = λ job. held_fewer old.ends new.ends one c.loop-one.searched.items c.pop.new.self.items c.in-Some.ensures.items c.put_if_missing.ensures.puts job _ (c.loop-one.invariant.held job);
      len = c.put_if_missing.ensures.puts.len ∙ c.loop-one.invariant.len;
      kept = keeps_twice c.args.results.now.ends old.ends new.ends c.loop-one.invariant.kept kept;
      given = given_more c.args.results.now.ends old.ends new.ends c.args.searched.items _ one
          (taken_there _ _ _ was.0 one was.1 c.in-Some.ensures.items) c.put_if_missing.ensures.puts c.loop-one.invariant.given;
      placed = (
        one ∷ was.0,
        taken_more _ _ _ was.0 one was.1 c.in-Some.ensures.items,
        all_more (IsPlaced new.ends) one was.0 (slots old.ends new.ends one c.put_if_missing.ensures.puts) (all_still old.ends new.ends was.0 c.put_if_missing.ensures.puts.len kept was.2),
      );
    }

pub put_if_missing-requires : goal.put_if_missing-requires
put_if_missing-requires c = record { searched = (All-pop (IsResult c.loop-one.results.line c.loop-one.results.limits) _ _ (Some c.in-Some.one) c.in-Some.ensures.items c.loop-one.invariant.left).1 }
