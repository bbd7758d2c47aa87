use Rattle.std.proofs.Common.{◌≡◌, ℕ, ◌≤◌, length, arith, rules, sym, ap, subst, ◌∙◌}
use Rattle.tt_board.specs.inside.Chains.{name_at, AreNames}
use Rattle.tt_board.proofs.LinkLemmas.{named_bare}
use Rattle.tt_board.proofs.OverLemmas.{over_all, over_counted}
use Rattle.tt_board.proofs.counted.chains.Chains.set_to.Goals as goal
use Rattle.tt_board.proofs.counted.chains.Chains.set_to.Goals.{then-end-le-MOST_COPIED_IN_PARTS, else-end-le-MOST_COPIED_IN_PARTS}

pub invariant_of-self : goal.invariant_of-self
invariant_of-self c =
    let b = c.other.inside in let i = c.other.invariant in let a = c.self.inside in let j = c.self.invariant in let n = c.greater_end-end.result in
    let bare_b : (q : ℕ) → n ≤ q → name_at b.counts.names q ≡ 0 = λ q past. named_bare _ _ (i.named.named q) (i.rest q (omega (arith, past, c.greater_end-end.ensures.other))) in
    let bare_a : (q : ℕ) → n ≤ q → name_at a.counts.names q ≡ 0 = λ q past. named_bare _ _ (j.named.named q) (j.rest q (omega (arith, past, c.greater_end-end.ensures.one))) in
    elim c.if-end-le-MOST_COPIED_IN_PARTS.branch [
      | then-end-le-MOST_COPIED_IN_PARTS w ↦
          let names = w.copy_first in let stones = w.copy_first-then-end-le-MOST_COPIED_IN_PARTS in let liberties = w.copy_first-then-end-le-MOST_COPIED_IN_PARTS-2 in
          let wide : length b.counts.names ≡ 361 = search rules in
          let also : length a.counts.names ≡ 361 = search rules in
          let few : length b.counts.stones ≡ 361 = search rules in
          let most : length b.counts.liberties ≡ 361 = search rules in
          let same : names.new.entries ≡ b.counts.names = names.ensures ∙ over_all n b.counts.names a.counts.names (omega (arith, w.if-end-le-MOST_COPIED_IN_PARTS.true, wide))
          (wide ∙ sym also) (sym (ap length names.ensures) ∙ names.auto.entries ∙ also ∙ sym wide) bare_b bare_a in
          rw (w.self-inside-is, c.set_to.ensures) (record {
            fits = i.fits;
            named = subst (AreNames b.size b.points) (sym same) i.named;
            counted = rw (same, stones.ensures, liberties.ensures) (over_counted b.size n b.counts a.counts.stones a.counts.liberties i.counted bare_b
                (omega (arith, w.if-end-le-MOST_COPIED_IN_PARTS.true, few)) (omega (arith, w.if-end-le-MOST_COPIED_IN_PARTS.true, most)));
            alive = i.alive;
            rest = i.rest;
          })
      | else-end-le-MOST_COPIED_IN_PARTS w ↦ rw (w.self-inside-is, c.set_to.ensures) (record { fits = i.fits; named = i.named; counted = i.counted; alive = i.alive; rest = i.rest })
    ]
