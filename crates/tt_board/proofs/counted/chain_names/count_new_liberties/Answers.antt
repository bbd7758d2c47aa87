use Rattle.std.proofs.Common.{inl, inr, arith}
use Rattle.tt_board.specs.inside.Chains.{is_new}
use Rattle.tt_board.proofs.NameLemmas.{beside_counted}
use Rattle.tt_board.proofs.counted.chain_names.count_new_liberties.Goals as goal

pub one_if_new_liberty-requires : goal.one_if_new_liberty-requires
one_if_new_liberty-requires c = λ q is. ((c.neighbours_of-near.ensures.all q).0 (inl is)).0

pub one_if_new_liberty-requires-2 : goal.one_if_new_liberty-requires-2
one_if_new_liberty-requires-2 c = λ q is. ((c.neighbours_of-near.ensures.all q).0 (inr (inl is))).0

pub one_if_new_liberty-requires-3 : goal.one_if_new_liberty-requires-3
one_if_new_liberty-requires-3 c = λ q is. ((c.neighbours_of-near.ensures.all q).0 (inr (inr (inl is)))).0

pub one_if_new_liberty-requires-4 : goal.one_if_new_liberty-requires-4
one_if_new_liberty-requires-4 c = λ q is. ((c.neighbours_of-near.ensures.all q).0 (inr (inr (inr is)))).0

pub returns : goal.returns
returns c =
    let sum = beside_counted c.args.size (is_new c.args.size c.args.names.now c.args.name) c.args.p _ _ _ _ c.neighbours_of-near.ensures.all c.neighbours_of-near.ensures.once in
    omega (arith, sum, c.one_if_new_liberty.ensures.value, c.one_if_new_liberty-2.ensures.value, c.one_if_new_liberty-3.ensures.value, c.one_if_new_liberty-4.ensures.value)
