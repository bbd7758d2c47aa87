use Rattle.std.proofs.Common.{◌≡◌, length, ◌+◌}
use Rattle.tt_game.specs.Faults.{bad_first_value}
use Rattle.tt_game.proofs.reading.bad_first_value.Given as goal

abbrev pub invariant-loop-first : goal.invariant-loop-first
invariant-loop-first l = record {
  all : bad_first_value l.node l.name l.property l.rest ≡ bad_first_value l.node l.name 0 l.properties;
  most : l.property + length l.rest ≡ length l.properties;
}

abbrev pub decreases-loop-first : goal.decreases-loop-first
decreases-loop-first l = length l.rest
