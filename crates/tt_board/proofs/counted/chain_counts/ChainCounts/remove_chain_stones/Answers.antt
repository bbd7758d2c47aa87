use Rattle.std.proofs.Common.{ℕ, ◌≡◌, ◌≢◌, ◌+◌, ◌-◌, ◌<◌, length, set, arith, rules, inl, inr, refl, sym, ap, subst, ◌∙◌}
use Rattle.std.proofs.lemmas.Bool.{cases_eq, cases_lt}
use Rattle.std.proofs.lemmas.List.{length-set, get_or-set_same, get_or-set_other}
use Rattle.tt_sgf.specs.Sizes.{point_count}
use Rattle.tt_board.specs.inside.Chains.{name_at}
use Rattle.tt_sgf.specs.laws.SizeLaws.{point_count_is_bounded}
use Rattle.tt_board.proofs.JoinLemmas.{partly_none, none_stones, living_stones}
use Rattle.tt_board.proofs.CaptureLemmas.{Releasing, releasing_more, released_names, released_gone}
use Rattle.tt_board.proofs.counted.chain_counts.ChainCounts.remove_chain_stones.Goals as goal
use Rattle.tt_board.proofs.counted.chain_counts.ChainCounts.remove_chain_stones.Goals.{then-self-p, else-self-p}

pub loop-p-init : goal.loop-p-init
loop-p-init c = record {
  wide = search rules;
  releasing = record {
    fits = refl;
    ends = c.requires.counted.ends;
    partly = partly_none c.args.name 0 c.args.self.now.names;
    rooted = λ q some _. c.requires.counted.rooted q some;
    left_true = ap (name_at c.args.self.now.stones) c.root_of.ensures.value ∙ living_stones c.args.size c.args.self.now c.args.name c.requires.counted c.requires.living;
    gone = λ q is other. absurd (other is);
    kept = λ q other. refl;
  };
  done = λ k below. absurd (omega arith);
  counted = λ q some _. c.requires.counted.liberties_true q some;
  stones = refl;
}

pub returns-then-left-eq0 : goal.returns-then-left-eq0
returns-then-left-eq0 c =
    let r = c.loop-p.invariant.releasing in
    let wide : length c.args.self.now.names ≡ 361 = search rules in
    let none : (k : ℕ) → k < length c.loop-p.self.names → name_at c.loop-p.self.names k ≢ c.args.name = none_stones c.loop-p.self.names c.args.name (sym r.left_true ∙ c.if-left-eq0.true) in
    record {
      names = released_names _ _ _ _ _ _ _ r c.requires.living.0 (c.loop-p.invariant.wide ∙ sym wide) none;
      lost = record { fits = r.fits; gone = released_gone _ _ _ _ _ _ _ r c.requires.living.0 (c.loop-p.invariant.wide ∙ sym wide) none; kept = r.kept };
      stones = c.loop-p.invariant.stones;
      still_counted = c.loop-p.invariant.counted;
    }

pub returns : goal.returns
returns c =
    let r = c.loop-p.invariant.releasing in
    let wide : length c.args.self.now.names ≡ 361 = search rules in
    let none : (k : ℕ) → k < length c.loop-p.self.names → name_at c.loop-p.self.names k ≢ c.args.name = λ k below. elim (cases_lt k (point_count c.args.size)) [
      | inl on ↦ c.loop-p.invariant.done k (omega arith)
      | inr past ↦ λ is. c.requires.living.0 (sym is ∙ r.ends k past)
    ] in
    record {
      names = released_names _ _ _ _ _ _ _ r c.requires.living.0 (c.loop-p.invariant.wide ∙ sym wide) none;
      lost = record { fits = r.fits; gone = released_gone _ _ _ _ _ _ _ r c.requires.living.0 (c.loop-p.invariant.wide ∙ sym wide) none; kept = r.kept };
      stones = c.loop-p.invariant.stones;
      still_counted = c.loop-p.invariant.counted;
    }

pub loop-p-preserved : goal.loop-p-preserved
loop-p-preserved c =
    let i = c.loop-p.invariant in
    let s = c.args.size in let old = c.args.self.now.names in let before = c.args.points.now in let e = c.args.name in
    let ns = c.loop-p.self.names in let p = c.loop-p.p in let few = point_count_is_bounded s in
    let in_p : p < length ns = omega (arith, few, i.wide) in
    elim c.if-self-p.branch [
      | then-self-p w ↦
          let one : c.loop-p.left ≡ (c.loop-p.left - 1) + 1 = omega (arith, c.if-left-eq0.false) in
          let r = releasing_more s old before e ns c.loop-p.points (c.loop-p.left - 1) p (subst (Releasing s old before e ns c.loop-p.points) one i.releasing)
          (omega arith) in_p (omega (arith, i.releasing.fits, c.requires.fits)) c.requires.living.0 w.if-self-p.true in
          rw (w.points-is, w.self-is, w.left-is) (record {
            wide = ap length w.remove_stone.ensures.names ∙ length-set ns p 0 ∙ i.wide;
            releasing = rw (w.remove_stone.ensures.names, w.remove_stone.ensures.points) r;
            done = rw w.remove_stone.ensures.names (λ k below. elim (cases_eq k p) [
              | inl same ↦ λ is. c.requires.living.0 (sym is ∙ ap (name_at (set ns p 0)) same ∙ get_or-set_same ns p 0 0 in_p)
              | inr apart ↦ λ is. i.done k (omega arith) (sym (get_or-set_other ns p k 0 0 apart) ∙ is)
            ]);
            stones = w.remove_stone.ensures.stones ∙ i.stones;
            counted = w.remove_stone.ensures.still_counted;
          })
      | else-self-p w ↦
          rw (w.points-is, w.self-is, w.left-is) (record {
            wide = i.wide;
            releasing = i.releasing;
            done = λ k below. elim (cases_eq k p) [
              | inl same ↦ λ is. w.if-self-p.false (sym (ap (name_at ns) same) ∙ is)
              | inr apart ↦ i.done k (omega arith)
            ];
            stones = i.stones;
            counted = i.counted;
          })
    ]
