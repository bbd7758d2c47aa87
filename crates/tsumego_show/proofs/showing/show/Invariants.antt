use Rattle.std.proofs.Common.{◌≤◌, ◌+◌, length}
use Rattle.tsumego_show.proofs.TreeByTree.{Progress}
use Rattle.tsumego_show.proofs.showing.show.Given as goal

abbrev pub invariant-loop-number : goal.invariant-loop-number
invariant-loop-number l = record {
  bound : l.number + length l.rest ≤ length l.input + 1;
  progress : Progress l.mode l.input l.rest l.number l.refused l.all.text.items;
}

abbrev pub decreases-loop-number : goal.decreases-loop-number
decreases-loop-number l = length l.rest
