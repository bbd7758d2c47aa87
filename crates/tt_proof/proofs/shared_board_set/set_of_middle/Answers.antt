use Rattle.std.proofs.Common.{rules, ◌≡◌, ◌↔◌, ◌⊎◌, ◌++◌, [], Contains, List, sym, subst}
use Rattle.tt_board.specs.Position.{Position}
use Rattle.tt_proof.proofs.ResultLemmas.{if_ok}
use Rattle.tt_proof.proofs.SharedLemmas.{other_order, in_two}
use Rattle.tt_proof.proofs.shared_board_set.set_of_middle.Goals as goal

pub returns-then-len : goal.returns-then-len
returns-then-len c = if_ok c.of.result _ _
    (λ r e b. subst (λ (xs : List Position). Contains xs b ↔ (Contains c.args.middle b ⊎ Contains c.args.base b)) (sym e)
    (other_order _ _ _ (subst (λ (xs : List Position). Contains c.join.new.self b ↔ (Contains xs b ⊎ Contains c.args.middle b)) c.in_ok-set.ensures (c.in_ok-join.ensures b)))) c.of.ensures

pub returns : goal.returns
returns c b =
    let none : c.new.result ≡ [] = search rules in
    let is : c.in_ok-of.field-0 ≡ c.args.middle = search rules in
    subst (λ (xs : List Position). Contains (xs ++ (c.in_ok-of.field-0 ++ c.args.base)) b ↔ (Contains c.args.middle b ⊎ Contains c.args.base b)) (sym none)
    (subst (λ (xs : List Position). Contains (xs ++ c.args.base) b ↔ (Contains c.args.middle b ⊎ Contains c.args.base b)) (sym is) (in_two c.args.middle c.args.base b))
