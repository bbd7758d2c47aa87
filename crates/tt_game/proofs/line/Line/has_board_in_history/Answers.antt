use Rattle.std.proofs.Common.{◌≡◌, sym, ap, ◌∙◌, arith}
use Rattle.tt_sgf.specs.laws.SizeLaws.{size_is_fixed_by_sides}
use Rattle.tt_game.specs.Line.{LineWithUndo}
use Rattle.tt_game.proofs.line.Line.has_board_in_history.Goals as goal

pub has_colouring_in_history-requires : goal.has_colouring_in_history-requires
has_colouring_in_history-requires c =
    let here = c.size.result in let there = c.self.inside.frame.size in
    let columns : here.columns ≡ there.columns = grind arith in
    let rows : here.rows ≡ there.rows = grind arith in
    sym c.size.ensures.value ∙ size_is_fixed_by_sides here there columns rows ∙ ap (λ (l : LineWithUndo). l.frame.size) c.self.view_is

pub returns : goal.returns
returns c =
    let here = c.size.result in let there = c.self.inside.frame.size in
    let columns : here.columns ≡ there.columns = grind arith in
    let rows : here.rows ≡ there.rows = grind arith in (
      λ y. (sym c.size.ensures.value ∙ size_is_fixed_by_sides here there columns rows ∙ ap (λ (l : LineWithUndo). l.frame.size) c.self.view_is, c.has_colouring_in_history.ensures.0 y),
      λ h. c.has_colouring_in_history.ensures.1 h.1,
    )
