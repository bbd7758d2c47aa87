use Rattle.std.proofs.Common.{◌≡◌, false}
use Rattle.tt_sgf.specs.inside.Reading.{raw_at}
use Rattle.tt_sgf.proofs.TokenLemmas.{raw_so_far}
use Rattle.tt_sgf.proofs.tokens.raw_end.Given as goal

abbrev pub invariant-loop-i : goal.invariant-loop-i
invariant-loop-i l = raw_so_far l.bytes l.i l.escaped ≡ raw_at false l.bytes
