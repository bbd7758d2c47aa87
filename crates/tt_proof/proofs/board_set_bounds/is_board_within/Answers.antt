use Rattle.tt_proof.proofs.board_set_bounds.is_board_within.Goals as goal

pub returns-in-Some : goal.returns-in-Some
returns-in-Some c = rw c.in-Some.is c.has.ensures
