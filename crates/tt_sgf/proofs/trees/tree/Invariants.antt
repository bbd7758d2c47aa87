use Rattle.std.proofs.Common.{◌+◌, ◌≤◌, length}
use Rattle.tt_sgf.proofs.WalkLemmas.{Far}
use Rattle.tt_sgf.proofs.trees.tree.Given as goal

abbrev pub invariant-loop-nodes : goal.invariant-loop-nodes
invariant-loop-nodes l = Far l.bytes l.rest l.in_tree l.enclosing l.on_main l.nodes.items × (l.enclosing + length l.rest ≤ length l.bytes)

abbrev pub decreases-loop-nodes : goal.decreases-loop-nodes
decreases-loop-nodes l = length l.rest
