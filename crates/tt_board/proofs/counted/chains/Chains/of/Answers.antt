use Rattle.std.proofs.Common.{◌≡◌, Some, None, set, arith, inl, inr, sym, ap, subst, ◌∙◌}
use Rattle.std.proofs.lemmas.Bool.{cases_eq, cases_lt}
use Rattle.std.proofs.lemmas.List.{get_or-set_same, get_or-set_other, ext_get_or}
use Rattle.tt_board.specs.Reach.{entry_at}
use Rattle.tt_board.specs.Setup.{AllHaveLiberties}
use Rattle.tt_board.proofs.PlacedLemmas.{alive_fewer}
use Rattle.tt_board.proofs.counted.chains.Chains.of.Goals as goal

pub put_stone-requires-clause-alive : goal.put_stone-requires-clause-alive
put_stone-requires-clause-alive c =
    let i = c.loop-p.invariant in let p = c.loop-p.p in let made = c.loop-p.made.points in let k = c.in-Some.colour in
    let here : Some k ≡ entry_at c.args.points.now p = c.in-Some.ensures in
    subst (λ s. AllHaveLiberties s (set made p (Some k))) (sym i.size) (alive_fewer c.args.size c.args.points.now (set made p (Some k)) c.requires.alive (λ q. elim (cases_eq q p) [
      | inl same ↦ inl (ap (entry_at (set made p (Some k))) same ∙ get_or-set_same made p (Some k) None (omega (arith, i.fits)) ∙ here ∙ ap (entry_at c.args.points.now) (sym same))
      | inr apart ↦
          let other = get_or-set_other made p q (Some k) None apart in
          elim (cases_lt q p) [
            | inl before ↦ inl (other ∙ i.made q before)
            | inr after ↦ inr (other ∙ i.rest q after)
          ]
    ]))

pub returns-clause-points : goal.returns-clause-points
returns-clause-points c =
    let i = c.loop-p.invariant in
    ext_get_or None c.loop-p.made.points c.args.points.now (i.fits ∙ sym c.requires.fits) (λ k below. i.made k (omega (arith, i.fits)))
