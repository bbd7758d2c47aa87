use Rattle.std.proofs.Common.{count_by}
use Rattle.std.specs.List.{range_with_len}
use Rattle.tt_sgf.specs.Sizes.{point_count}
use Rattle.tt_sgf.specs.MachineWords.{bit_in}
use Rattle.tt_marks.proofs.WallLemmas.{IsLeft}
use Rattle.tt_marks.proofs.walls.wall_bits.Given as goal

abbrev pub invariant-loop-colour : goal.invariant-loop-colour
invariant-loop-colour l = IsLeft l.board.size l.board.points l.colour l.stone l.wall.words

abbrev pub decreases-loop-colour : goal.decreases-loop-colour
decreases-loop-colour l = count_by (bit_in l.wall.words) (range_with_len 0 (point_count l.board.size))
