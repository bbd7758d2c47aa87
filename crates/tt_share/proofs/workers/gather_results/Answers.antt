use Rattle.std.proofs.Common.{rules, ◌∷◌, All, Some, ◌∙◌, arith}
use Rattle.std.proofs.lemmas.List.Elements.{All-pop}
use Rattle.tt_share.specs.declared.workers.HandedBack.{HandedBack}
use Rattle.tt_share.specs.inside.Workers.{AreApart, AllPlaced, AreSearched}
use Rattle.tt_share.proofs.Apart.{held_backs, back_apart, spent_backs}
use Rattle.tt_share.proofs.Placing.{same_asked, same_twice, keeps_twice, backs_still, all_more, taken_more, taken_there, reversed_more, given_backs}
use Rattle.tt_share.proofs.workers.gather_results.Goals as goal

pub loop-back-preserved : goal.loop-back-preserved
loop-back-preserved c =
    let old = c.loop-back.results in
    let new = c.gather_one_worker.new.results in
    let back = c.in-Some.back in
    let both = All-pop (AreSearched old.line old.limits) _ _ (Some back) c.in-Some.ensures.items c.loop-back.invariant.left in
    let was = c.loop-back.invariant.placed in
    record {
      left = same_asked (λ line limits. All (AreSearched line limits) c.pop.new.self.items) old new c.gather_one_worker.ensures.same both.0;
      seats = reversed_more (λ (b : HandedBack). b.seat) c.loop-back.seats.items _ _ back c.loop-back.work.items c.pop.new.self.items
          c.in-Some.ensures.items c.push_reserved.ensures.items c.loop-back.invariant.seats;
      count = search rules;
      room = search rules;
      same = same_twice c.args.results.now old new c.loop-back.invariant.same c.gather_one_worker.ensures.same;
      spent = λ apart.
          (let each : AreApart old.ends back.searched.items = back_apart old.ends back c.loop-back.work.items c.pop.new.self.items c.in-Some.ensures.items
          (λ job. let most = apart job in omega (arith, most, c.loop-back.invariant.held job)) in
          spent_backs _ _ _ back c.loop-back.work.items c.pop.new.self.items c.in-Some.ensures.items (c.gather_one_worker.ensures.spent each) (c.loop-back.invariant.spent apart));
      held = λ job. held_backs old.ends new.ends back c.loop-back.work.items c.pop.new.self.items c.in-Some.ensures.items c.gather_one_worker.ensures.held job _ (c.loop-back.invariant.held job);
      len = c.gather_one_worker.ensures.len ∙ c.loop-back.invariant.len;
      kept = keeps_twice c.args.results.now.ends old.ends new.ends c.loop-back.invariant.kept c.gather_one_worker.ensures.kept;
      given = given_backs c.args.results.now.ends old.ends new.ends c.args.work.items _ back
          (taken_there _ _ _ was.0 back was.1 c.in-Some.ensures.items) c.gather_one_worker.ensures.kept c.gather_one_worker.ensures.given c.loop-back.invariant.given;
      placed = (
        back ∷ was.0,
        taken_more _ _ _ was.0 back was.1 c.in-Some.ensures.items,
        all_more (AllPlaced new.ends) back was.0 c.gather_one_worker.ensures.placed (backs_still old.ends new.ends was.0 c.gather_one_worker.ensures.len c.gather_one_worker.ensures.kept was.2),
      );
    }

pub gather_one_worker-requires : goal.gather_one_worker-requires
gather_one_worker-requires c =
    record { searched = (All-pop (AreSearched c.loop-back.results.line c.loop-back.results.limits) _ _ (Some c.in-Some.back) c.in-Some.ensures.items c.loop-back.invariant.left).1 }
