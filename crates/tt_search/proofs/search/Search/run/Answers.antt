use Rattle.std.proofs.Common.{◌∙◌, sym, ap, subst, arith}
use Rattle.tt_search.specs.SearchState.{SearchState}
use Rattle.tt_search.specs.RunEnds.{HasRunTo, HasGrantPerExpansion}
use Rattle.tt_search.specs.declared.limits.Limits.{Limits}
use Rattle.tt_search.specs.declared.descent.StopAfter.TheVariants.{NumbersChange}
use Rattle.tt_search.proofs.Advanced.{advanced_falls, advanced_reached, settled_reached, stuck_reached}
use Rattle.tt_search.proofs.Asking.{kept_refused, settled_refused, spent_stuck}
use Rattle.tt_search.proofs.search.Search.run.Goals as goal

pub advance-requires : goal.advance-requires
advance-requires g c =
    let run = c.loop-search.invariant in
    let limits = ap (λ (l : Limits). l.budget) run.reached.problem.limits in
    omega (arith, c.requires.grants, run.spent, limits)

pub loop-search-smaller : goal.loop-search-smaller
loop-search-smaller g c = advanced_falls NumbersChange c.loop-search.search c.advance.new.self c.advance.result c.advance.ensures.advanced c.advance.ensures.problem c.in-Expanded.is

pub loop-search-preserved : goal.loop-search-preserved
loop-search-preserved g c =
    let run = c.loop-search.invariant in record {
      reached = advanced_reached NumbersChange c.args.self c.loop-search.search c.advance.new.self c.advance.result run.reached
          c.advance.ensures.advanced c.advance.ensures.problem c.in-Expanded.is;
      spent = omega (arith, run.spent, c.advance.ensures.spent);
      source = c.advance.ensures.source ∙ run.source;
      same = kept_refused NumbersChange (g.G.Grants.asked c.loop-search.grants) (g.G.Grants.asked c.advance.new.grants) c.advance.result c.advance.ensures.asked c.in-Expanded.is ∙ run.same;
    }

pub returns-in-Ok : goal.returns-in-Ok
returns-in-Ok g c =
    let run = c.loop-search.invariant in
    let reached = settled_reached NumbersChange c.args.self c.loop-search.search c.advance.new.self run.reached c.in-Settled.ensures.advanced in
    let same = settled_refused NumbersChange (g.G.Grants.asked c.loop-search.grants) (g.G.Grants.asked c.advance.new.grants) c.in-Settled.ensures.asked in record {
      end = (c.advance.new.self, reached, c.in-Ok.ensures.exact);
      spent = (c.advance.new.self, reached, c.in-Ok.ensures.exact, omega (arith, run.spent, c.advance.ensures.spent), same ∙ run.same);
      source = c.advance.ensures.source ∙ run.source;
      few = omega (arith, run.spent, c.advance.ensures.spent, c.advance.ensures.few, ap (λ (l : Limits). l.budget) reached.problem.limits);
    }

pub returns-in-Err : goal.returns-in-Err
returns-in-Err g c =
    let run = c.loop-search.invariant in
    let first = g.G.Grants.asked c.args.grants.now in
    let new = g.G.Grants.asked c.advance.new.grants in
    let reached = settled_reached NumbersChange c.args.self c.loop-search.search c.advance.new.self run.reached c.in-Settled.ensures.advanced in
    let spent : HasGrantPerExpansion c.args.self first c.advance.new.self new = omega (arith, run.spent, c.advance.ensures.spent) in
    let same = settled_refused NumbersChange (g.G.Grants.asked c.loop-search.grants) new c.in-Settled.ensures.asked in
    let stays = sym c.proof.ensures.same in record {
      end = (subst (HasRunTo c.args.self) stays reached, tt);
      spent = (subst (λ (s : SearchState). HasGrantPerExpansion c.args.self first s new) stays spent, same ∙ run.same);
      source = c.advance.ensures.source ∙ run.source;
      few = omega (arith, spent, c.advance.ensures.few, ap (λ (l : Limits). l.budget) reached.problem.limits);
    }

pub returns-in-Stuck : goal.returns-in-Stuck
returns-in-Stuck g c =
    let run = c.loop-search.invariant in
    let first = g.G.Grants.asked c.args.grants.now in
    let new = g.G.Grants.asked c.advance.new.grants in
    let spent : HasGrantPerExpansion c.args.self first c.advance.new.self new = omega (arith, run.spent, c.advance.ensures.spent) in
    let end = stuck_reached NumbersChange c.args.self c.loop-search.search c.advance.new.self c.in-Stuck.reason run.reached c.in-Stuck.ensures.advanced in record {
      end = end;
      source = c.advance.ensures.source ∙ run.source;
      few = omega (arith, spent, c.advance.ensures.few, ap (λ (l : Limits). l.budget) end.0.problem.limits);
      spent = spent_stuck NumbersChange c.args.self c.advance.new.self first (g.G.Grants.asked c.loop-search.grants) new c.in-Stuck.reason spent run.same c.in-Stuck.ensures.asked;
    }
