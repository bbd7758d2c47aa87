use Rattle.std.proofs.Common.{◌≡◌, suc, ◌++◌, ◌∷◌, [], ◌∙◌, sym, ap, length, arith}
use Rattle.tt_sgf.specs.MachineWords.{bit_in}
use Rattle.tt_sgf.specs.declared.size.TheConstants.{MOST_POINTS}
use Rattle.tt_search.specs.inside.Untried.{fresh_edge, plays_in, plays_and_pass}
use Rattle.tt_search.proofs.Joins.{on_ok}
use Rattle.tt_search.proofs.Untried.{none_yet, skipped, play_here}
use Rattle.tt_search.proofs.tree.untried.UntriedPlays.edges_with_pass.Goals as goal

pub loop-p-init : goal.loop-p-init
loop-p-init c = record {
  made = c.new-edges.ensures ∙ sym (none_yet (bit_in c.self.inside.points.words));
  few = omega (arith, ap length c.new-edges.ensures);
  inside = omega arith;
}

pub loop-p-preserved : goal.loop-p-preserved
loop-p-preserved c =
    let has = bit_in c.self.inside.points.words in
    let n = c.first_from.result in
    let off = c.first_from.ensures in
    let is : c.from-from.result ≡ n = c.from-from.ensures ∙ c.number.ensures.number ∙ c.in-Some.ensures.0 in
    let up_to : plays_in has n ≡ plays_in has c.loop-p.from =
    skipped has c.loop-p.from n off.after (λ q low high. off.none q low high (omega (arith, high, c.in-Some.ensures.1))) in
    let play : c.fresh_play.result ≡ fresh_edge n = c.fresh_play.ensures ∙ ap fresh_edge c.in-Some.ensures.0 in
    let next : plays_in has n ++ c.fresh_play.result ∷ [] ≡ plays_in has (suc n) =
    ap (λ e. plays_in has n ++ e ∷ []) play ∙ sym (play_here has n (off.found (omega (arith, c.in-Some.ensures.1)))) in
    record {
      made = c.push.ensures.items ∙ ap (λ es. es ++ c.fresh_play.result ∷ []) (c.loop-p.invariant.made ∙ sym up_to) ∙ next
          ∙ ap (plays_in has) (omega (arith, is));
      few = omega (arith, c.push.ensures.len, c.loop-p.invariant.few, is, off.after);
      inside = omega (arith, is, c.in-Some.ensures.1);
    }

pub returns : goal.returns
returns c =
    let has = bit_in c.self.inside.points.words in
    let off = c.first_from.ensures in
    let up_to : plays_in has MOST_POINTS ≡ plays_in has c.loop-p.from =
    skipped has c.loop-p.from MOST_POINTS c.loop-p.invariant.inside (λ q low high. off.none q low (omega (arith, high, c.in_default.ensures)) (omega (arith, high))) in
    let plays : c.loop-p.edges.items ≡ c.args.self.now = c.loop-p.invariant.made ∙ sym up_to ∙ c.self.view_is in
    let all = c.as_slice.ensures.value ∙ c.push-2.ensures.items ∙ ap (λ e. c.loop-p.edges.items ++ e ∷ []) c.fresh_pass.ensures ∙ ap plays_and_pass plays in
    on_ok c.of.result _ _ (λ row is. is ∙ all) c.of.ensures
