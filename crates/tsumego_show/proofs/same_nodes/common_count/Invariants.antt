use Rattle.std.proofs.Common.{◌≡◌, take}
use Rattle.tsumego_show.proofs.same_nodes.common_count.Given as goal

abbrev pub invariant-loop-i : goal.invariant-loop-i
invariant-loop-i g l = take l.i l.one ≡ take l.i l.other
