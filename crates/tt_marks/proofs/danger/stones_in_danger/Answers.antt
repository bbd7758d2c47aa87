use Rattle.std.proofs.Common.{◌∙◌, sym, arith}
use Rattle.std.specs.FinSet as set
use Rattle.tt_sgf.specs.Sizes.{point_count}
use Rattle.tt_sgf.specs.MachineWords.{bit_in}
use Rattle.tt_sgf.specs.laws.SizeLaws.{point_count_is_bounded}
use Rattle.tt_marks.specs.Reached.{Has}
use Rattle.tt_marks.specs.Walls.{HasOuterLiberty, HasStone}
use Rattle.tt_marks.proofs.ReachedLemmas.{small}
use Rattle.tt_marks.proofs.SetLemmas.{has_of_set, passing_on_board}
use Rattle.tt_marks.proofs.WallLemmas.{danger_is}
use Rattle.tt_marks.proofs.danger.stones_in_danger.Goals as goal

pub returns-clause-those : goal.returns-clause-those
returns-clause-those c p in_p =
    let s = c.args.board.now.size in
    has_of_set {X = HasStone s c.args.board.now.points c.args.wall_colour p × (HasOuterLiberty s c.args.board.now.points c.args.wall_colour (Has (set.contains c.args.region.now)) p → ⊥)}
    (bit_in c.minus.result.words) (point_count s) p c.set_of.result (rw c.size.ensures.value at c.set_of.ensures) in_p
    (danger_is s c.args.board.now.points c.args.wall_colour (Has (set.contains c.args.region.now)) c.bits-2.result.now.words c.bits.result.now.words
    c.stones_with_liberty_outside-safe.result.words c.minus.result.words c.bits-2.ensures c.stones_with_liberty_outside-safe.ensures.those
    (λ r in_r. let e = c.bits.ensures.below r (omega (arith, in_r, point_count_is_bounded s)) (small s r in_r) in (λ h. sym e ∙ h, λ h. e ∙ h)) c.minus.ensures p in_p)

pub returns-clause-on_board : goal.returns-clause-on_board
returns-clause-on_board c = passing_on_board (bit_in c.minus.result.words) (point_count c.args.board.now.size) c.set_of.result (rw c.size.ensures.value at c.set_of.ensures)
