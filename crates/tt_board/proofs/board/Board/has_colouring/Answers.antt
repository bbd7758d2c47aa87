use Rattle.std.proofs.Common.{sym, ap, ◌∙◌}
use Rattle.tt_board.specs.Position.{Position}
use Rattle.tt_board.proofs.BoardsLemmas.{tests_same, tests_pass, positions_same}
use Rattle.tt_board.proofs.board.Board.has_colouring.Goals as goal

pub returns : goal.returns
returns c =
    let i = c.self.inside in (
      λ h. sym c.self.view_is ∙ positions_same i.size c.args.size i.points c.args.points.now (tests_same i.size c.args.size (sym c.eq.ensures ∙ h)) (c.same.ensures.0 c.if-not-same.false),
      λ same. c.eq.ensures ∙ tests_pass i.size c.args.size (ap (λ (p : Position). p.size) (c.self.view_is ∙ same)),
    )
