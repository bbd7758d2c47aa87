use Rattle.std.proofs.Common.{◌≡◌, length}
use Rattle.tt_sgf.specs.inside.Reading.{◌>>=◌, values_at}
use Rattle.tt_sgf.proofs.TokenLemmas.{with_front}
use Rattle.tt_sgf.proofs.properties.values.Given as goal

abbrev pub invariant-loop-opened : goal.invariant-loop-opened
invariant-loop-opened l = (values_at l.rest >>= with_front l.values) ≡ values_at l.bytes

abbrev pub decreases-loop-opened : goal.decreases-loop-opened
decreases-loop-opened l = length l.rest
