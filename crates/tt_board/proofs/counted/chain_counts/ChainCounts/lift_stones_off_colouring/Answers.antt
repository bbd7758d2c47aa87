use Rattle.std.proofs.Common.{◌≡◌, ◌<◌, length, set, rules, None, arith, inl, inr, refl, sym, ap, ◌∙◌}
use Rattle.std.proofs.lemmas.Bool.{cases_eq, cases_lt}
use Rattle.std.proofs.lemmas.List.{length-set, get_or-set_same, get_or-set_other, get_or_past}
use Rattle.tt_sgf.specs.Sizes.{point_count}
use Rattle.tt_board.specs.Reach.{entry_at}
use Rattle.tt_board.specs.inside.Chains.{name_at}
use Rattle.tt_sgf.specs.laws.SizeLaws.{point_count_is_bounded}
use Rattle.tt_board.proofs.JoinLemmas.{living_stones}
use Rattle.tt_board.proofs.CaptureLemmas.{stones_here, stones_not_here, none_from}
use Rattle.tt_board.proofs.counted.chain_counts.ChainCounts.lift_stones_off_colouring.Goals as goal
use Rattle.tt_board.proofs.counted.chain_counts.ChainCounts.lift_stones_off_colouring.Goals.{then-self-p, else-self-p}

pub loop-p-init : goal.loop-p-init
loop-p-init c = record {
  fits = refl;
  gone = λ q below is. absurd (omega (arith, below));
  rest = ap (name_at c.args.self.now.stones) c.root_of.ensures.value ∙ living_stones c.args.size c.args.self.now c.args.name c.requires.counted c.requires.living;
  kept = λ q other. refl;
}

pub loop-p-preserved : goal.loop-p-preserved
loop-p-preserved c =
    let i = c.loop-p.invariant in let d = c.loop-p.points in let p = c.loop-p.p in let ns = c.args.self.now.names in
    let in_p : p < length d = omega (arith, i.fits, c.requires.fits) in
    let wide : length ns ≡ 361 = search rules in
    let in_names : p < length ns = omega (arith, wide, point_count_is_bounded c.args.size) in
    elim c.if-self-p.branch [
      | then-self-p w ↦
          rw (w.points-is, w.left-is, w.set.ensures) (record {
            fits = length-set d p None ∙ i.fits;
            rest = omega (arith, i.rest, stones_here ns c.args.name p in_names w.if-self-p.true);
            gone = λ q below is. elim (cases_eq q p) [
              | inl same ↦ ap (entry_at (set d p None)) same ∙ get_or-set_same d p None None in_p
              | inr apart ↦ get_or-set_other d p q None None apart ∙ i.gone q (omega arith) is
            ];
            kept = λ q other. elim (cases_eq q p) [
              | inl same ↦ absurd (other (ap (name_at ns) same ∙ w.if-self-p.true))
              | inr apart ↦ get_or-set_other d p q None None apart ∙ i.kept q other
            ];
          })
      | else-self-p w ↦
          rw (w.points-is, w.left-is) (record {
            fits = i.fits;
            rest = i.rest ∙ stones_not_here ns c.args.name p in_names w.if-self-p.false;
            gone = λ q below is. elim (cases_eq q p) [
              | inl same ↦ absurd (w.if-self-p.false (sym (ap (name_at ns) same) ∙ is))
              | inr apart ↦ i.gone q (omega arith) is
            ];
            kept = i.kept;
          })
    ]

pub returns-then-left-eq0 : goal.returns-then-left-eq0
returns-then-left-eq0 c =
    let i = c.loop-p.invariant in let d = c.loop-p.points in let ns = c.args.self.now.names in
    record {
      fits = i.fits;
      gone = λ q is. elim (cases_lt q c.loop-p.p) [
        | inl before ↦ i.gone q before is
        | inr from ↦ elim (cases_lt q (length ns)) [
          | inl below ↦ absurd (none_from ns c.args.name c.loop-p.p q (sym i.rest ∙ c.if-left-eq0.true) from below is)
          | inr past ↦ absurd (c.requires.living.0 (sym is ∙ get_or_past ns q 0 past))
        ]
      ];
      kept = i.kept;
    }

pub returns : goal.returns
returns c =
    let i = c.loop-p.invariant in let d = c.loop-p.points in
    record {
      fits = i.fits;
      gone = λ q is. elim (cases_lt q (point_count c.args.size)) [
        | inl below ↦ i.gone q (omega arith) is
        | inr past ↦ get_or_past d q None (omega (arith, i.fits, c.requires.fits))
      ];
      kept = i.kept;
    }
