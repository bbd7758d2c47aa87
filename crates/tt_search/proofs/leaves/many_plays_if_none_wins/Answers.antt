use Rattle.std.proofs.Common.{◌≡◌, ℕ, ◌+◌, ◌≤◌, List, ◌++◌, ◌∷◌, [], map, length, refl, sym, ap, subst, ◌<◌, ◌∙◌, arith}
use Rattle.tt_sgf.specs.Sizes.{point_count}
use Rattle.tt_game.specs.declared.frame.Frame.{Frame}
use Rattle.tt_search.specs.declared.tree.edges.Edge.{Edge}
use Rattle.std.proofs.lemmas.List.{length_push}
use Rattle.tt_sgf.specs.declared.size.TheConstants.{MOST_POINTS}
use Rattle.tt_sgf.specs.laws.SizeLaws.{point_count_is_bounded}
use Rattle.tt_game.specs.Turns.{TurnWithWinner}
use Rattle.tt_search.specs.declared.tree.edges.EdgeState.TheVariants.{Fresh}
use Rattle.tt_game.specs.laws.TurnLaws.{turns_from_0_are_all}
use Rattle.tt_search.specs.Growing.{leaf_with_winner}
use Rattle.tt_search.specs.inside.Edges.{edge_state_of, tree_of, AreFresh}
use Rattle.tt_search.specs.inside.Untried.{AreBelow, fresh_edge, plays_and_pass}
use Rattle.tt_search.proofs.FreshRows.{fresh_edge_state}
use Rattle.tt_search.proofs.Successors.{turns_of-successors, turns_more, leaves_more, turns_last, leaves_last}
use Rattle.tt_search.proofs.Untried.{below_more, below_push, fresh_push, fresh_grown, play_turn, no_winner}
use Rattle.tt_search.proofs.leaves.many_plays_if_none_wins.Goals as goal

pub loop-p-init : goal.loop-p-init
loop-p-init c =
    let f = c.args.plays.now.frame in let s = c.args.plays.now.state in let from = c.requires in
    record {
      frame = refl;
      state = refl;
      turns = rw (from, c.new-found.ensures) (ap (map (λ (x : TurnWithWinner). x.turn)) (turns_from_0_are_all f s) ∙ turns_of-successors f s);
      leaves = rw (from, c.new-found.ensures) (ap (map (λ (x : TurnWithWinner). leaf_with_winner x.winner)) (turns_from_0_are_all f s));
      fresh = subst AreFresh (sym c.new-found.ensures) tt;
      below = subst (AreBelow c.args.plays.now.from) (sym c.new-found.ensures) tt;
      few = omega (arith, ap length c.new-found.ensures);
      inside = omega (arith, from);
      low = omega (arith, from);
    }

pub push-requires : goal.push-requires
push-requires c =
    let i = c.loop-p.invariant in
    let found = rw (i.frame, i.state) at c.in-Some.ensures.next in
    below_more c.loop-p.plays.from _ c.loop-p.found found.0 i.below

under_most : (f : Frame) (p : ℕ) → p < point_count f.size → p < MOST_POINTS
under_most f p lt = omega (arith, lt, point_count_is_bounded f.size)

fresh_play : (p : ℕ) → p < MOST_POINTS → edge_state_of (fresh_edge p) ≡ Fresh
fresh_play p low = fresh_edge_state (fresh_edge p) (omega (arith, low))

below_next : (es : List Edge) (p from n : ℕ) → from ≤ p → n ≡ p + 1 → AreBelow from es → AreBelow n (es ++ fresh_edge p ∷ [])
below_next es p from n le is h = below_push n es (fresh_edge p) (below_more from n es (omega (arith, le, is)) h) (omega (arith, is))

pub loop-p-preserved : goal.loop-p-preserved
loop-p-preserved c =
    let f = c.args.plays.now.frame in let s = c.args.plays.now.state in let i = c.loop-p.invariant in
    let plays = c.loop-p.found in
    let next = rw (i.frame, i.state) at c.in-Some.ensures.next in
    let is = next.2 in
    let low = under_most f _ next.1 in
    let items = c.push.ensures in
    let won = no_winner _ (sym c.is_some-in-Some.ensures ∙ c.if-is_some-2.false) in
    let edge_state = fresh_play _ low in
    let len = ap length items ∙ length_push plays _ in
    record {
      frame = c.next.ensures.same.0 ∙ i.frame;
      state = c.next.ensures.same.1 ∙ i.state;
      turns = turns_more f s plays c.push.new.self _ c.loop-p.plays.from _ c.next.new.self.from items (play_turn _ low) next.4 is i.turns;
      leaves = leaves_more f s plays c.push.new.self _ _ c.loop-p.plays.from _ c.next.new.self.from items (ap (λ m. tree_of m []) edge_state ∙ sym (ap leaf_with_winner won)) next.3 next.4 is
          i.leaves;
      fresh = subst AreFresh (sym items) (fresh_push plays _ i.fresh edge_state);
      below = subst (AreBelow c.next.new.self.from) (sym items) (below_next plays _ c.loop-p.plays.from c.next.new.self.from next.0 is i.below);
      few = omega (arith, len, i.few, is, next.0);
      inside = rw i.frame at c.next.ensures.inside;
      low = omega (arith, is, low);
    }

pub returns : goal.returns
returns c =
    let f = c.args.plays.now.frame in let s = c.args.plays.now.state in let i = c.loop-p.invariant in
    let plays = c.loop-p.found in
    let e = fresh_edge MOST_POINTS in
    let fresh : AreFresh (plays_and_pass plays) = fresh_push plays e i.fresh refl in
    let won = no_winner c.winner_by_pass.result (sym c.is_some.ensures ∙ c.if-is_some.false) in
    let len = length_push plays e in
    let last = rw (i.frame, i.state) at c.in_default.ensures.next in
    record {
      edges = record {
        none_grown = fresh_grown (plays_and_pass plays) fresh;
        turns = turns_last f s plays (plays_and_pass plays) e c.loop-p.plays.from refl refl last i.turns;
        leaves = leaves_last f s plays (plays_and_pass plays) e c.winner_by_pass.result c.loop-p.plays.from refl (sym (ap leaf_with_winner won)) c.winner_by_pass.ensures last i.leaves;
      };
      untried = record { fresh = fresh; some = omega (arith, len); few = omega (arith, len, i.few, i.low) };
      same = (c.next.ensures.same.0 ∙ i.frame, c.next.ensures.same.1 ∙ i.state);
    }
