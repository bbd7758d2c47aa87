use Rattle.std.proofs.Common.{◌≡◌, length}
use Rattle.tt_sgf.specs.Values.{after_blanks}
use Rattle.tt_sgf.proofs.tokens.skip_blanks.Given as goal

abbrev pub invariant-loop-first : goal.invariant-loop-first
invariant-loop-first l = after_blanks l.rest ≡ after_blanks l.bytes

abbrev pub decreases-loop-first : goal.decreases-loop-first
decreases-loop-first l = length l.rest
