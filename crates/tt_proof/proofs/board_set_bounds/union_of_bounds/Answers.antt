use Rattle.tt_proof.proofs.board_set_bounds.union_of_bounds.Goals as goal

pub returns-clause-left : goal.returns-clause-left
returns-clause-left c = rw c.in-Some.is c.union_with.ensures.left

pub returns-clause-right : goal.returns-clause-right
returns-clause-right c = rw c.in-Some-other.is c.union_with.ensures.right
