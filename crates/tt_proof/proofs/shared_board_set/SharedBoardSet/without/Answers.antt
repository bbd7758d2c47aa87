use Rattle.std.proofs.Common.{rules, ◌≢◌, ◌↔◌, ◌⊎◌, inl, inr, Contains, List, sym, subst, refl}
use Rattle.tt_board.specs.Position.{Position}
use Rattle.tt_proof.proofs.ResultLemmas.{if_ok}
use Rattle.tt_proof.proofs.SharedLemmas.{in_three, both, taken_out}
use Rattle.tt_proof.proofs.shared_board_set.SharedBoardSet.without.Goals as goal

pub returns-then-has_with_hash : goal.returns-then-has_with_hash
returns-then-has_with_hash c = if_ok c.of.result _ _
    (λ r e b. subst (λ (xs : List Position). Contains xs b ↔ (Contains c.args.self b × (b ≢ c.args.board.now))) (sym e)
    (both (c.remove_with_hash.ensures b) (λ w. ((c.in_ok-set.ensures b).0 w.0, w.1), λ w. ((c.in_ok-set.ensures b).1 w.0, w.1)))) c.of.ensures

pub returns : goal.returns
returns c b =
    let a = c.self.inside.added in
    let m = c.self.inside.middle in
    let z = c.self.inside.base in
    let x = c.args.board.now in
    let no_base : Contains z x → ⊥ = search rules in
    let no_middle : Contains m x → ⊥ = search rules in
    let off : Contains m b ⊎ Contains z b → b ≢ x = λ w e. elim w [
      | inl h ↦ no_middle (subst (λ y. Contains m y) e h)
      | inr h ↦ no_base (subst (λ y. Contains z y) e h)
    ] in
    both (in_three c.remove_with_hash-2.new.self m z _ refl b) (taken_out (c.remove_with_hash-2.ensures b) off (in_three a m z c.args.self c.self.view_is b))
