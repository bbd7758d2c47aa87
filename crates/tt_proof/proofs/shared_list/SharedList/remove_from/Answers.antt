use Rattle.std.proofs.Common.{rules, ◌≡◌, ◌⊎◌, Contains, List, subst}
use Rattle.tt_board.specs.Position.{Position}
use Rattle.tt_proof.proofs.shared_list.SharedList.remove_from.Goals as goal

pub returns-then-len-gt-MOST_JOINED-clause-rest : goal.returns-then-len-gt-MOST_JOINED-clause-rest
returns-then-len-gt-MOST_JOINED-clause-rest c b m = (c.remove_all_of.ensures.rest b m).0

pub returns-then-len-gt-MOST_JOINED-clause-others : goal.returns-then-len-gt-MOST_JOINED-clause-others
returns-then-len-gt-MOST_JOINED-clause-others c b m =
    let is : c.deref-then-len-gt-MOST_JOINED.result.now ≡ c.args.self.now = search rules in
    subst (λ (xs : List Position). Contains c.remove_all_of.new.self b ⊎ Contains xs b) is (c.remove_all_of.ensures.others b m)
