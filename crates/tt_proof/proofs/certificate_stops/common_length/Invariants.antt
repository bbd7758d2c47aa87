use Rattle.std.proofs.Common.{◌≡◌, take}
use Rattle.tt_proof.proofs.certificate_stops.common_length.Given as goal

abbrev pub invariant-loop-i : goal.invariant-loop-i
invariant-loop-i l = take l.i l.bytes ≡ take l.i l.word
