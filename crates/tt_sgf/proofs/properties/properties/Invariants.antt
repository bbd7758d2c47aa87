use Rattle.std.proofs.Common.{◌≡◌, length}
use Rattle.tt_sgf.specs.inside.Reading.{◌>>=◌, properties_at}
use Rattle.tt_sgf.proofs.TokenLemmas.{with_front}
use Rattle.tt_sgf.proofs.properties.properties.Given as goal

abbrev pub invariant-loop-alloc : goal.invariant-loop-alloc
invariant-loop-alloc l = (properties_at l.rest >>= with_front l.properties.items) ≡ properties_at l.bytes

abbrev pub decreases-loop-alloc : goal.decreases-loop-alloc
decreases-loop-alloc l = length l.rest
