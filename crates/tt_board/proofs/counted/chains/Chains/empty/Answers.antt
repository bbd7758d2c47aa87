use Rattle.tt_board.proofs.PlacedLemmas.{none_placed}
use Rattle.tt_board.proofs.counted.chains.Chains.empty.Goals as goal

pub invariant_of-result : goal.invariant_of-result
invariant_of-result c = rw (c.empty.ensures, c.point_count.ensures.value, c.zeros.ensures, c.zeros-2.ensures, c.zeros-3.ensures) (none_placed c.args.size)
