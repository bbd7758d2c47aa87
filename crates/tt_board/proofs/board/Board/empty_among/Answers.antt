use Rattle.std.proofs.Common.{◌≤◌, arith}
use Rattle.tt_sgf.specs.laws.SizeLaws.{point_count_is_bounded}
use Rattle.tt_sgf.specs.Sizes.{point_count}
use Rattle.tt_board.proofs.StoneLemmas.{left_empty}
use Rattle.tt_board.proofs.board.Board.empty_among.Goals as goal

pub returns : goal.returns
returns c = λ p on.
    let position = c.args.self.now in
    let few : point_count position.size ≤ 361 = point_count_is_bounded position.size in
    left_empty position.size c.args.points.now position.points c.bits.result.now.words c.bits-2.result.now.words c.bits-3.result.now.words
    c.bits.ensures c.bits-2.ensures c.bits-3.ensures c.minus-left.result.words c.minus.result.words p on
    (c.minus-left.ensures p (omega (arith, on, few))) (c.minus.ensures p (omega (arith, on, few)))
