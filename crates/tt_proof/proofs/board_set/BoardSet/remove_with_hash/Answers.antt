use Rattle.std.proofs.Common.{rules, ◌≡◌, ◌≢◌, inl, inr, Contains, sym, subst}
use Rattle.tt_proof.proofs.RetainLemmas.{kept, left_out_or_kept, kept_rise}
use Rattle.tt_proof.proofs.board_set.BoardSet.remove_with_hash.Goals as goal

pub invariant_of-self : goal.invariant_of-self
invariant_of-self c = kept_rise _ _ c.self.inside.boards.items c.retain.new.self.items c.retain.ensures.filtered c.self.invariant

pub returns : goal.returns
returns c b =
    let board = c.args.board.now in
    let items = c.self.inside.boards.items in
    let left = c.retain.new.self.items in (
      λ m. let w = kept _ (λ x. x ≢ board) (λ x. x ≡ board) _ (λ x r q k. search rules) items left c.retain.ensures.filtered b m in
          (subst (λ xs. Contains xs b) c.self.view_is w.0, w.1),
      λ w. elim (left_out_or_kept _ (λ x. x ≢ board) (λ x. x ≡ board) _ (λ x r q k. search rules) items left c.retain.ensures.filtered b
          (subst (λ xs. Contains xs b) (sym c.self.view_is) w.0)) [ inl e ↦ absurd (w.1 e) | inr m ↦ m ],
    )
