use Rattle.std.proofs.Common.{◌≡◌, length, ◌+◌}
use Rattle.tt_game.specs.Faults.{first_bad_entry}
use Rattle.tt_game.proofs.reading.first_bad_entry.Given as goal

abbrev pub invariant-loop-value : goal.invariant-loop-value
invariant-loop-value l = record {
  all : l.index + first_bad_entry l.size l.rest ≡ first_bad_entry l.size l.values;
  most : l.index + length l.rest ≡ length l.values;
}

abbrev pub decreases-loop-value : goal.decreases-loop-value
decreases-loop-value l = length l.rest
