use Rattle.std.proofs.Common.{map, length, refl, sym, ap, subst, ◌∙◌, arith}
use Rattle.tt_game.specs.Turns.{TurnWithWinner}
use Rattle.tt_game.specs.laws.TurnLaws.{turns_from_0_are_all}
use Rattle.tt_search.specs.Growing.{leaf_with_winner}
use Rattle.tt_search.specs.inside.Edges.{grown_in}
use Rattle.tt_search.proofs.Indices.{grown_push}
use Rattle.tt_search.proofs.Successors.{turns_of-successors, turns_more, leaves_more, turns_last, leaves_last}
use Rattle.tt_search.specs.inside.Expanding.{AreNewEdges}
use Rattle.tt_search.proofs.Joins.{on_ok}
use Rattle.tt_search.proofs.leaves.edges_to_new_leaves.Goals as goal

pub loop-p-init : goal.loop-p-init
loop-p-init c =
    let f = c.args.plays.now.frame in let s = c.args.plays.now.state in let from = c.requires in
    record {
      frame = refl;
      state = refl;
      small = ap grown_in c.new-edges.ensures;
      turns = rw (from, c.new-edges.ensures) (ap (map (λ (x : TurnWithWinner). x.turn)) (turns_from_0_are_all f s) ∙ turns_of-successors f s);
      leaves = rw (from, c.new-edges.ensures) (ap (map (λ (x : TurnWithWinner). leaf_with_winner x.winner)) (turns_from_0_are_all f s));
      few = omega (arith, ap length c.new-edges.ensures);
      inside = omega (arith, from);
    }

pub loop-p-preserved : goal.loop-p-preserved
loop-p-preserved c =
    let f = c.args.plays.now.frame in let s = c.args.plays.now.state in let i = c.loop-p.invariant in
    let found = rw (i.frame, i.state) at c.in-Some.ensures.next in
    let is = found.2 in
    let items = c.push.ensures.items in
    record {
      frame = c.next.ensures.same.0 ∙ i.frame;
      state = c.next.ensures.same.1 ∙ i.state;
      small = ap grown_in items ∙ grown_push c.loop-p.edges.items c.new_edge.result c.new_edge.ensures.small ∙ i.small;
      turns = turns_more f s c.loop-p.edges.items c.push.new.self.items c.new_edge.result c.loop-p.plays.from _ c.next.new.self.from
          items c.new_edge.ensures.turn found.4 is i.turns;
      leaves = leaves_more f s c.loop-p.edges.items c.push.new.self.items c.new_edge.result _ c.loop-p.plays.from _ c.next.new.self.from
          items c.new_edge.ensures.tree found.3 found.4 is i.leaves;
      few = omega (arith, c.push.ensures.len, i.few, is, found.0);
      inside = rw i.frame at c.next.ensures.inside;
    }

pub returns : goal.returns
returns c =
    let f = c.args.plays.now.frame in let s = c.args.plays.now.state in let i = c.loop-p.invariant in
    let es = c.loop-p.edges.items in
    let made = c.push-2.new.self.items in
    let e = c.new_edge-2.result in
    let items = c.push-2.ensures.items in
    let last = rw (i.frame, i.state) at c.in_default.ensures.next in
    let won = rw (c.next.ensures.same.0 ∙ i.frame, c.next.ensures.same.1 ∙ i.state) at c.winner_by_pass.ensures in
    let here : AreNewEdges f s made = record {
      none_grown = ap grown_in items ∙ grown_push es e c.new_edge-2.ensures.small ∙ i.small;
      turns = turns_last f s es made e c.loop-p.plays.from items c.new_edge-2.ensures.turn last i.turns;
      leaves = leaves_last f s es made e c.winner_by_pass.result c.loop-p.plays.from items c.new_edge-2.ensures.tree won last i.leaves;
    } in
    on_ok c.of.result _ _ (λ row is. subst (AreNewEdges f s) (sym (is ∙ c.as_slice.ensures.value)) here) c.of.ensures
