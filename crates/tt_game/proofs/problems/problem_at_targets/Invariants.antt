use Rattle.std.proofs.Common.{◌≡◌, ◌+◌, length}
use Rattle.tt_game.specs.Problems.{problem_at_targets}
use Rattle.tt_game.proofs.problems.problem_at_targets.Given as goal

abbrev pub invariant-loop-node : goal.invariant-loop-node
invariant-loop-node l = record {
  all : problem_at_targets l.number l.last l.rest ≡ problem_at_targets 0 l.initial.last l.nodes;
  most : l.number + length l.rest ≡ length l.nodes;
}

abbrev pub decreases-loop-node : goal.decreases-loop-node
decreases-loop-node l = length l.rest
