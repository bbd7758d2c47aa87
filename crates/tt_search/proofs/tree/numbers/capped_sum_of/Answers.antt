use Rattle.std.proofs.Common.{arith}
use Rattle.std.proofs.lemmas.Grind.{common_steps}
use Rattle.tt_search.proofs.tree.numbers.capped_sum_of.Goals as goal

pub loop-edge-init : goal.loop-edge-init
loop-edge-init c = record {
  capped = omega arith;
  sum = grind (arith, common_steps);
  whole = c.requires;
}
