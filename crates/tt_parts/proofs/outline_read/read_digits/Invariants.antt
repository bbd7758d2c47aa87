use Rattle.std.proofs.Common.{length}
use Rattle.tt_parts.proofs.NameLemmas.{Counted}
use Rattle.tt_parts.proofs.outline_read.read_digits.Given as goal

abbrev pub invariant-loop-byte : goal.invariant-loop-byte
invariant-loop-byte l = Counted l.number l.bytes l.now

abbrev pub decreases-loop-byte : goal.decreases-loop-byte
decreases-loop-byte l = length l.now
