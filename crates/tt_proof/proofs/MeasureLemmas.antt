-- The measures of a list of replies with one more at its end.
use Rattle.std.proofs.Common.{◌≡◌, ◌+◌, ◌++◌, [], ◌∷◌, List, max, arith}
use Rattle.tt_game.specs.declared.turns.Turn.{Turn}
use Rattle.tt_proof.specs.declared.tree.Tree.{Tree}
use Rattle.tt_proof.specs.Strategy.{depth, depth_of_entries, strategy_of, entries_of_reply}
use Rattle.tt_proof.specs.Nodes.{nodes, nodes_of_entries}

-- with one more reply, the depth is that of the others, or one more than its tree's where that is greater
pub depth_push : (es : List (Turn × Tree)) (e : Turn × Tree) →
    depth_of_entries (entries_of_reply (es ++ e ∷ [])) ≡ max (depth_of_entries (entries_of_reply es)) (depth (strategy_of e.1) + 1)
depth_push [] e = omega arith
depth_push (x ∷ es) e = omega (arith, depth_push es e)

-- and the nodes are those of the others and those of its tree
pub nodes_push : (es : List (Turn × Tree)) (e : Turn × Tree) →
    nodes_of_entries (entries_of_reply (es ++ e ∷ [])) ≡ nodes_of_entries (entries_of_reply es) + nodes (strategy_of e.1)
nodes_push [] e = omega arith
nodes_push (x ∷ es) e = omega (arith, nodes_push es e)
