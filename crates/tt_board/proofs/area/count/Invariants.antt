use Rattle.std.proofs.Common.{◌≡◌, ◌*◌, take, count_by}
use Rattle.std.specs.List.{range_with_len}
use Rattle.tt_sgf.specs.Sizes.{point_count}
use Rattle.tt_sgf.specs.MachineWords.{bit_in}
use Rattle.tt_board.proofs.area.count.Given as goal

abbrev pub invariant-loop-k : goal.invariant-loop-k
invariant-loop-k l = l.total ≡ count_by (bit_in l.words) (take (64 * l.k) (range_with_len 0 (point_count l.fn.size)))
