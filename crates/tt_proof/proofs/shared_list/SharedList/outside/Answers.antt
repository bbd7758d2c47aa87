use Rattle.std.proofs.Common.{rules, ◌≡◌, ◌⊎◌, Contains, length, List, inr, subst}
use Rattle.tt_board.specs.Position.{Position}
use Rattle.tt_proof.proofs.SharedLemmas.{outside_other, none_held}
use Rattle.tt_proof.proofs.shared_list.SharedList.outside.Goals as goal

pub returns-then-has_same_as : goal.returns-then-has_same_as
returns-then-has_same_as c b =
    let none : length c.new.result ≡ 0 = search rules in
    outside_other (λ r. absurd (none_held c.new.result b none r)) (λ s. inr (c.has_same_as.ensures c.if-has_same_as.true b s))

pub returns : goal.returns
returns c b =
    outside_other (subst (λ (xs : List Position). Contains c.remove_from.new.set b → Contains xs b) c.in_ok-set.ensures (c.remove_from.ensures.rest b))
    (subst (λ (xs : List Position). Contains xs b → Contains c.remove_from.new.set b ⊎ Contains c.args.other.now b) c.in_ok-set.ensures (c.remove_from.ensures.others b))
