use Rattle.tt_proof.proofs.footprints.widened_bound.Goals as goal

pub returns-in-Play-clause-before : goal.returns-in-Play-clause-before
returns-in-Play-clause-before c b m = c.union_of_bounds.ensures.left b (c.union_of_bounds-both.ensures.left b m)

pub returns-in-Play-clause-behind : goal.returns-in-Play-clause-behind
returns-in-Play-clause-behind c b m = c.union_of_bounds.ensures.left b (c.union_of_bounds-both.ensures.right b m)

pub returns-in-Play-clause-made : goal.returns-in-Play-clause-made
returns-in-Play-clause-made c = rw c.in-Play.is (c.union_of_bounds.ensures.right c.args.board.now c.of.ensures)
