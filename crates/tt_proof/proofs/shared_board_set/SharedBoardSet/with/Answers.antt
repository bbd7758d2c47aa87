use Rattle.std.proofs.Common.{rules, inl, inr, Contains, refl}
use Rattle.tt_proof.proofs.ResultLemmas.{if_ok}
use Rattle.tt_proof.proofs.SharedLemmas.{in_three, added_first, held_already, both, same_as, sum_of}
use Rattle.tt_proof.proofs.shared_board_set.SharedBoardSet.with.Goals as goal
use Rattle.tt_proof.proofs.shared_board_set.SharedBoardSet.with.Goals.{then-has_with_hash-via-then-has_with_hash, then-has_with_hash-via-else-has_with_hash+then-has_with_hash-2}

pub returns-then-has_with_hash : goal.returns-then-has_with_hash
returns-then-has_with_hash c b =
    let a = c.self.inside.added in
    let m = c.self.inside.middle in
    let z = c.self.inside.base in
    let x = c.args.board.now in
    let three = in_three a m z c.args.self c.self.view_is x in
    held_already c.args.self x b (elim c.then-has_with_hash.branch [
      | then-has_with_hash-via-then-has_with_hash w ↦ let h : Contains z x = search rules in three.1 (inr (inr h))
      | then-has_with_hash-via-else-has_with_hash+then-has_with_hash-2 w ↦ let h : Contains m x = search rules in three.1 (inr (inl h))
    ])

pub returns : goal.returns
returns c =
    let a = c.self.inside.added in
    let m = c.self.inside.middle in
    let z = c.self.inside.base in
    if_ok c.settled.result _ _
    (λ r h b. both (h b) (both (in_three c.add_with_hash.new.self m z _ refl b)
    (same_as (added_first (c.in_ok-add_with_hash.ensures b)) (sum_of (in_three a m z c.args.self c.self.view_is b) (λ e. e, λ e. e))))) c.settled.ensures
