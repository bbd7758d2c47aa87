use Rattle.std.proofs.Common.{◌≡◌, ◌++◌, take, drop}
use Rattle.tt_sgf.specs.inside.Reading.{word_of, after_word}
use Rattle.tt_sgf.proofs.tokens.split_identifier.Given as goal

abbrev pub invariant-loop-i : goal.invariant-loop-i
invariant-loop-i l = (take l.i l.bytes ++ word_of (drop l.i l.bytes) ≡ word_of l.bytes) × (after_word (drop l.i l.bytes) ≡ after_word l.bytes)
