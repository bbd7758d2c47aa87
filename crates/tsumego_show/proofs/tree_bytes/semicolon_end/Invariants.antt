use Rattle.std.proofs.Common.{◌≤◌, length}
use Rattle.tsumego_show.proofs.tree_bytes.semicolon_end.Given as goal

abbrev pub invariant-loop-node : goal.invariant-loop-node
invariant-loop-node l = l.end ≤ length l.tree
