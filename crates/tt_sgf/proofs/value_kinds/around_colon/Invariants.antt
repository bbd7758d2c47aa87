use Rattle.std.proofs.Common.{◌≡◌, false, take}
use Rattle.tt_sgf.proofs.SizeLemmas.{has_colon}
use Rattle.tt_sgf.proofs.value_kinds.around_colon.Given as goal

abbrev pub invariant-loop-i : goal.invariant-loop-i
invariant-loop-i l = has_colon (take l.i l.text) ≡ false
