use Rattle.std.proofs.Common.{◌≡◌, ◌≤◌, ◌+◌, length, false}
use Rattle.tsumego.specs.Tasks.{MakesOutcome}
use Rattle.tsumego.proofs.TreeByTree.{Progress}
use Rattle.tsumego.proofs.answer.answer_trees.Given as goal

abbrev pub invariant-loop-number : goal.invariant-loop-number
invariant-loop-number g l = record {
  worked : l.writer.failed ≡ false;
  bound : l.number + length l.rest ≤ length l.input + 1;
  progress : Progress (MakesOutcome l.task) l.input l.rest l.number l.refused (g.W.Write.contents l.fn.writer.device) (g.W.Write.contents l.writer.device);
}

abbrev pub decreases-loop-number : goal.decreases-loop-number
decreases-loop-number g l = length l.rest
