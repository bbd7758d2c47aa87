use Rattle.std.proofs.Common.{◌≡◌, length}
use Rattle.tt_sgf.specs.PointLists.{set_of}
use Rattle.tt_game.specs.Nodes.{values_of}
use Rattle.tt_game.proofs.NodeLemmas.{joined}
use Rattle.tt_game.proofs.nodes.named_set.Given as goal

abbrev pub invariant-loop-property : goal.invariant-loop-property
invariant-loop-property l = joined l.points (set_of l.size (values_of l.name l.rest)) ≡ set_of l.size (values_of l.name l.properties)

abbrev pub decreases-loop-property : goal.decreases-loop-property
decreases-loop-property l = length l.rest
