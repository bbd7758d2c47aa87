use Rattle.tt_search.specs.inside.Choices.{node_with}
use Rattle.tt_search.specs.inside.ChildNodes.{choices_of}
use Rattle.tt_search.proofs.leaves.expanded_node.Goals as goal

pub invariant_of-result : goal.invariant_of-result
invariant_of-result c =
    let new = c.new-children in
    (c.proof_and_disproof-proof.ensures (node_with (choices_of new.result.0.mover new.result.1)) new.ensures.kept.pair, new.ensures.kept.kept)
