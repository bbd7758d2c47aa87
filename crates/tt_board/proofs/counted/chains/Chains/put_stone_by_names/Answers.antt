use Rattle.std.proofs.Common.{◌≡◌, None, Some, set, length, arith, sym, ap, subst, ◌∙◌}
use Rattle.std.proofs.lemmas.List.{length-set, get_or-set_other}
use Rattle.tt_board.specs.Reach.{entry_at}
use Rattle.tt_board.specs.Setup.{AllHaveLiberties}
use Rattle.tt_board.specs.inside.Chains.{ChainBoard, AreNames, AreNear}
use Rattle.tt_board.proofs.LinkLemmas.{named_bare}
use Rattle.tt_board.proofs.PlayKindLemmas.{never_nowhere}
use Rattle.tt_board.proofs.counted.chains.Chains.put_stone_by_names.Goals as goal

pub put_stone-requires-clause-free : goal.put_stone-requires-clause-free
put_stone-requires-clause-free c =
    named_bare _ _ (c.self.invariant.named.named c.args.p) (subst (λ (v : ChainBoard). entry_at v.points c.args.p ≡ None) (sym c.self.view_is) c.requires.free)

pub put_stone-requires-clause-coloured : goal.put_stone-requires-clause-coloured
put_stone-requires-clause-coloured c = λ q. never_nowhere _ _ (c.self.invariant.named.named q)

pub put_stone-requires-clause-near : goal.put_stone-requires-clause-near
put_stone-requires-clause-near c =
    subst (λ (v : ChainBoard). AreNear v.size v.counts.names c.args.p c.args.near.now) (sym c.self.view_is) c.requires.near

pub invariant_of-self : goal.invariant_of-self
invariant_of-self c =
    let b = c.self.inside in let i = c.self.invariant in let p = c.args.p in let k = c.args.colour in
    let alive : AllHaveLiberties b.size (set b.points p (Some k)) = subst (λ (v : ChainBoard). AllHaveLiberties v.size (set v.points p (Some k))) (sym c.self.view_is) c.requires.alive in
    record {
      fits = ap length c.set.ensures ∙ length-set b.points p (Some k) ∙ i.fits;
      named = subst (λ xs. AreNames b.size xs c.put_stone.new.self.names) (sym c.set.ensures) (c.put_stone.ensures.named b.points i.fits i.named);
      counted = c.put_stone.ensures.still_counted;
      alive = subst (AllHaveLiberties b.size) (sym c.set.ensures) alive;
      rest = λ q past.
          ap (λ xs. entry_at xs q) c.set.ensures
          ∙ get_or-set_other b.points p q (Some k) None (λ same. omega (arith, past, c.greater_end-self-inside.ensures.other, same))
          ∙ i.rest q (omega (arith, past, c.greater_end-self-inside.ensures.one));
    }
