use Rattle.tt_proof.proofs.ResultLemmas.{if_ok}
use Rattle.tt_proof.proofs.SharedLemmas.{other_order}
use Rattle.tt_proof.proofs.shared_board_set.SharedBoardSet.joined.Goals as goal

pub returns-then-len : goal.returns-then-len
returns-then-len c = if_ok c.with_all_of.result _ _ (λ r h b. other_order _ _ _ (h b)) c.with_all_of.ensures
