use Rattle.std.proofs.Common.{◌↔◌, ◌⊎◌, Contains, List, subst}
use Rattle.tt_board.specs.Position.{Position}
use Rattle.tt_proof.proofs.ResultLemmas.{if_ok}
use Rattle.tt_proof.proofs.SharedLemmas.{in_three, same_as, joined_to_middle}
use Rattle.tt_proof.proofs.shared_board_set.SharedBoardSet.settled.Goals as goal

pub returns : goal.returns
returns c =
    let a = c.self.inside.added in
    let m = c.self.inside.middle in
    let z = c.self.inside.base in
    if_ok c.set_of_middle.result _ _
    (λ r h b. same_as (joined_to_middle
    (subst (λ (xs : List Position). Contains c.join.new.self b ↔ (Contains xs b ⊎ Contains a b)) c.in_ok-middle.ensures (c.in_ok-join.ensures b)) (h b))
    (in_three a m z c.args.self c.self.view_is b)) c.set_of_middle.ensures
