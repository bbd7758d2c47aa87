use Rattle.std.proofs.Common.{◌≡◌, ◌+◌, length}
use Rattle.tt_game.specs.Records.{apply_nodes}
use Rattle.tt_game.proofs.records.apply_nodes.Given as goal

abbrev pub invariant-loop-node : goal.invariant-loop-node
invariant-loop-node l = record {
  all : apply_nodes l.number l.last l.rest ≡ apply_nodes 0 l.initial.last l.nodes;
  most : l.number + length l.rest ≡ length l.nodes;
}

abbrev pub decreases-loop-node : goal.decreases-loop-node
decreases-loop-node l = length l.rest
