use Rattle.std.proofs.Common.{rules, ◌≡◌, ◌⊎◌, inl, inr}
use Rattle.tt_proof.proofs.ResultLemmas.{on_ok}
use Rattle.tt_proof.proofs.SharedLemmas.{either_way}
use Rattle.tt_proof.proofs.board_set.BoardSet.join.Goals as goal
use Rattle.tt_proof.proofs.board_set.BoardSet.join.Goals.{then-len, else-len}

pub returns : goal.returns
returns c =
    let more = c.if-len.self in
    let fewer = c.if-len.fewer in
    let old = c.args.self.now in
    let others = c.args.others in
    let which : ((more ≡ others) × (fewer ≡ old)) ⊎ ((more ≡ old) × (fewer ≡ others)) = elim c.if-len.branch [
      | then-len w ↦ inl (search rules, search rules)
      | else-len w ↦ inr (search rules, search rules)
    ] in
    on_ok c.merge.result _ _ (λ h. either_way c.merge.new.self more fewer old others which h) c.merge.ensures
