use Rattle.std.proofs.Common.{◌↔◌, ◌⊎◌, Contains, List, subst}
use Rattle.tt_board.specs.Position.{Position}
use Rattle.tt_proof.proofs.SharedLemmas.{in_three, same_as, joined_in_turn}
use Rattle.tt_proof.proofs.shared_board_set.SharedBoardSet.into_set.Goals as goal

pub returns : goal.returns
returns c b =
    let a = c.self.inside.added in
    let m = c.self.inside.middle in
    let z = c.self.inside.base in
    let first = subst (λ (xs : List Position). Contains c.join.new.self b ↔ (Contains xs b ⊎ Contains m b)) c.in_ok-set.ensures
    (subst (λ (xs : List Position). Contains c.join.new.self b ↔ (Contains c.in_ok-set.set b ⊎ Contains xs b)) c.in_ok-into_set.ensures (c.in_ok-join.ensures b)) in
    same_as (joined_in_turn first (c.in_ok-join-2.ensures b)) (in_three a m z c.args.self c.self.view_is b)
