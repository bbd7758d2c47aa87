use Rattle.tt_sgf.specs.Sizes.{point_count}
use Rattle.tt_sgf.specs.laws.SizeLaws.{point_count_is_bounded}
use Rattle.tt_board.proofs.StoneLemmas.{empty_is}
use Rattle.tt_board.proofs.board.Board.has_some_empty.Goals as goal

pub returns : goal.returns
returns c =
    let position = c.args.self.now in
    empty_is c.args.points.now (point_count position.size) (point_count_is_bounded position.size) c.requires position.points c.bits.result.now.words c.bits.ensures
    c.bits-black.result.now.words c.bits-white.result.now.words c.bits-black.ensures c.bits-white.ensures c.is_within_union.result c.is_within_union.ensures
