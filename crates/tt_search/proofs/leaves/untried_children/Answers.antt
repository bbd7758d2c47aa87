use Rattle.std.proofs.Common.{length, refl, sym, ap, subst, ◌∙◌, arith}
use Rattle.tt_search.specs.inside.Edges.{AreFresh}
use Rattle.tt_search.specs.MostProving.{first_least_index}
use Rattle.tt_search.proofs.FreshRows.{ones, first_ones}
use Rattle.tt_search.proofs.Untried.{fresh_grown}
use Rattle.tt_search.proofs.leaves.untried_children.Goals as goal

pub returns-clause-kept : goal.returns-clause-kept
returns-clause-kept c =
    let es = c.in_ok-edges.edges in
    let is = c.in_ok-edges.ensures in
    let fresh = subst AreFresh (sym is) c.requires.fresh in
    record {
      few = omega (arith, ap length is, c.requires.few);
      whole = fresh_grown es fresh ∙ sym (ap length c.in_ok-grown.ensures.items);
      index = sym (ap first_least_index (ones c.args.mover es c.in_ok-grown.grown.items fresh) ∙ first_ones (length es) (omega (arith, ap length is, c.requires.some)));
      rank = refl;
    }
