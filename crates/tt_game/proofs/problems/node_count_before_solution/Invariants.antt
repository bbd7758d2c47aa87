use Rattle.std.proofs.Common.{◌≡◌, false, length, ◌+◌}
use Rattle.tt_game.specs.Problems.{node_count_before_solution}
use Rattle.tt_game.proofs.problems.node_count_before_solution.Given as goal

abbrev pub invariant-loop-node : goal.invariant-loop-node
invariant-loop-node l = record {
  all : l.count + node_count_before_solution l.up l.rest ≡ node_count_before_solution false l.nodes;
  most : l.count + length l.rest ≡ length l.nodes;
}

abbrev pub decreases-loop-node : goal.decreases-loop-node
decreases-loop-node l = length l.rest
