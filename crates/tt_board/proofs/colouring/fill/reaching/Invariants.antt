use Rattle.std.proofs.Common.{◌-◌, count_by}
use Rattle.std.specs.List.{range_with_len}
use Rattle.tt_sgf.specs.Sizes.{point_count}
use Rattle.tt_sgf.specs.MachineWords.{bit_in}
use Rattle.tt_board.proofs.FillLemmas.{IsFound}
use Rattle.tt_board.proofs.colouring.fill.reaching.Given as goal

abbrev pub invariant-loop-size : goal.invariant-loop-size
invariant-loop-size l = IsFound l.size l.own.words l.wanted.words l.found.words

abbrev pub decreases-loop-size : goal.decreases-loop-size
decreases-loop-size l = point_count l.size - count_by (bit_in l.found.words) (range_with_len 0 (point_count l.size))
