use Rattle.std.proofs.Common.{rules, inl, inr, Contains, sym, subst}
use Rattle.tt_proof.proofs.RetainLemmas.{kept, left_out_or_kept, kept_rise}
use Rattle.tt_proof.proofs.board_set.BoardSet.remove_all_of.Goals as goal

pub invariant_of-self : goal.invariant_of-self
invariant_of-self c = kept_rise _ _ c.self.inside.boards.items c.retain.new.self.items c.retain.ensures.filtered c.self.invariant

pub returns-clause-rest : goal.returns-clause-rest
returns-clause-rest c b m =
    let others = c.args.others.now in
    let w = kept _ (λ x. Contains others x → ⊥) (λ x. Contains others x) _ (λ x r q k. search rules) c.self.inside.boards.items c.retain.new.self.items c.retain.ensures.filtered b m in
    (subst (λ xs. Contains xs b) c.self.view_is w.0, w.1)

pub returns-clause-others : goal.returns-clause-others
returns-clause-others c b m =
    let others = c.args.others.now in
    elim (left_out_or_kept _ (λ x. Contains others x → ⊥) (λ x. Contains others x) _ (λ x r q k. search rules) c.self.inside.boards.items c.retain.new.self.items c.retain.ensures.filtered b
    (subst (λ xs. Contains xs b) (sym c.self.view_is) m)) [ inl h ↦ inr h | inr k ↦ inl k ]
