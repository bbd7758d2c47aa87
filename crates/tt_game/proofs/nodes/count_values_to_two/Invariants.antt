use Rattle.std.proofs.Common.{◌≡◌, ◌+◌, ◌≤◌, length, min}
use Rattle.tt_game.specs.Nodes.{values_of}
use Rattle.tt_game.proofs.nodes.count_values_to_two.Given as goal

abbrev pub invariant-loop-property : goal.invariant-loop-property
invariant-loop-property l = (min 2 (l.count + length (values_of l.name l.rest)) ≡ min 2 (length (values_of l.name l.properties))) × (l.count ≤ 2)

abbrev pub decreases-loop-property : goal.decreases-loop-property
decreases-loop-property l = length l.rest
