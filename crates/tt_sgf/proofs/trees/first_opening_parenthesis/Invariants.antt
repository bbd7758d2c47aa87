use Rattle.std.proofs.Common.{◌≡◌, eqb, false, take}
use Rattle.std.specs.List.{list_any}
use Rattle.tt_sgf.specs.Bytes.{open_tree}
use Rattle.tt_sgf.proofs.trees.first_opening_parenthesis.Given as goal

abbrev pub invariant-loop-i : goal.invariant-loop-i
invariant-loop-i l = list_any (λ b. eqb b open_tree) (take l.i l.bytes) ≡ false
