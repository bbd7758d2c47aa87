use Rattle.std.proofs.Common.{refl}
use Rattle.tt_proof.proofs.ResultLemmas.{if_ok}
use Rattle.tt_proof.proofs.SharedLemmas.{in_three, both, sum_of, same_as, joined_to_first, no_more}
use Rattle.tt_proof.proofs.shared_board_set.SharedBoardSet.with_all_of.Goals as goal

pub returns-then-is_empty : goal.returns-then-is_empty
returns-then-is_empty c b = no_more (λ m. absurd (c.is_empty.ensures c.if-is_empty.true b m))

pub returns : goal.returns
returns c =
    let a = c.self.inside.added in
    let m = c.self.inside.middle in
    let z = c.self.inside.base in
    let more = c.fewer-2.inside.added in
    let other_middle = c.fewer-2.inside.middle in
    let other_base = c.fewer-2.inside.base in
    if_ok c.settled.result _ _
    (λ s h b. both (h b) (both (in_three c.join-3.new.self m z _ refl b)
    (same_as (joined_to_first (c.in_ok-join.ensures b) (c.in_ok-join-2.ensures b) (c.in_ok-join-3.ensures b) (c.in_ok-outside.ensures b) (c.in_ok-outside-2.ensures b))
    (sum_of (in_three a m z c.args.self c.self.view_is b) (in_three more other_middle other_base c.args.fewer c.fewer-2.view_is b)))))
    c.settled.ensures
