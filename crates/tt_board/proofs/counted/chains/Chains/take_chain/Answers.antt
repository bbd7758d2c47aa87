use Rattle.std.proofs.Common.{inl, inr, sym, subst, ◌∙◌}
use Rattle.tt_board.specs.inside.Chains.{AreNames}
use Rattle.tt_board.proofs.PlacedLemmas.{alive_fewer, names_taken, taken_fewer}
use Rattle.tt_board.proofs.counted.chains.Chains.take_chain.Goals as goal

pub invariant_of-self : goal.invariant_of-self
invariant_of-self c =
    let b = c.self.inside in let i = c.self.invariant in let e = c.args.name in let r = c.remove_chain.ensures in let after = c.remove_chain.new in
    let fewer = taken_fewer b.size b.points after.points b.counts.names e c.requires.living.0 i.named r.lost.gone r.lost.kept in
    record {
      fits = r.lost.fits ∙ i.fits;
      named = subst (AreNames b.size after.points) (sym r.names) (names_taken b.size b.points after.points b.counts.names e c.requires.living.0 i.named r.lost.gone r.lost.kept);
      counted = r.still_counted;
      alive = alive_fewer b.size b.points after.points i.alive fewer;
      rest = λ q past. elim (fewer q) [ inl same ↦ same ∙ i.rest q past | inr bare ↦ bare ];
    }
