use Rattle.std.proofs.Common.{◌≡◌, [], ap, ◌∙◌, arith}
use Rattle.std.proofs.lemmas.List.{nil_from_length}
use Rattle.tt_game.specs.Problems.{node_count_before_solution}
use Rattle.tt_game.proofs.ProblemLemmas.{asked_nil}
use Rattle.tt_game.proofs.problems.node_count_before_solution.Goals as goal

pub returns-clause-value : goal.returns-clause-value
returns-clause-value c =
    let e : c.loop-node.rest.now ≡ [] = nil_from_length c.loop-node.rest.now c.in_default.ensures.cases in
    let none : node_count_before_solution c.loop-node.up c.loop-node.rest.now ≡ 0 = ap (node_count_before_solution c.loop-node.up) e ∙ asked_nil c.loop-node.up in
    omega (arith, none, c.loop-node.invariant.all)
