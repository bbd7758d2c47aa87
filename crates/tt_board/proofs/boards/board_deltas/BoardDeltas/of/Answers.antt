use Rattle.std.proofs.Common.{rules, ◌≡◌, map, ap, ◌∙◌, arith}
use Rattle.std.proofs.lemmas.List.{take_all}
use Rattle.std.specs.Arc.{arc_value}
use Rattle.tt_board.specs.Position.{colourings}
use Rattle.tt_board.specs.inside.Differences.{colourings_from}
use Rattle.tt_board.specs.inside.Boards.{board_of}
use Rattle.tt_board.proofs.BoardsLemmas.{shown_boards}
use Rattle.tt_board.proofs.boards.board_deltas.BoardDeltas.of.Goals as goal

pub returns : goal.returns
returns c =
    let base = arc_value c.args.base.now in
    let boards = c.args.boards.now in
    let same : arc_value c.in_ok-base.base ≡ base = search rules in
    let all : map (board_of base.size) (colourings_from base.points c.loop-board.steps) ≡ boards =
    ap (map (board_of base.size)) (c.loop-board.invariant.boards ∙ ap colourings (take_all c.loop-board.board-index boards (omega (arith, c.loop-board-test.false))))
    ∙ shown_boards base.size boards c.requires in
    rw (same, c.shrink_to_fit.ensures) all
