use Rattle.std.proofs.Common.{rules, ◌≡◌, ◌⊎◌, ◌↔◌, Contains, subst}
use Rattle.tt_proof.proofs.ResultLemmas.{on_ok}
use Rattle.tt_proof.proofs.SharedLemmas.{held_already}
use Rattle.tt_proof.proofs.board_set.BoardSet.add_with_hash.Goals as goal

pub returns-then-has_with_hash : goal.returns-then-has_with_hash
returns-then-has_with_hash c b = held_already c.args.self.now c.args.board.now b (c.has_with_hash.ensures.0 c.if-has_with_hash.true)

pub returns : goal.returns
returns c =
    let is : c.in_ok-made.made ≡ c.args.board.now = search rules in
    on_ok c.insert.result _ _ (λ h b. subst (λ x. Contains c.insert.new.self b ↔ (Contains c.args.self.now b ⊎ (b ≡ x))) is (h b)) c.insert.ensures
