use Rattle.std.proofs.Common.{◌≡◌, ◌∙◌}
use Rattle.tt_board.proofs.AroundLemmas.{around_is}
use Rattle.tt_board.proofs.colouring.around.adjacent_points.Goals as goal

pub returns : goal.returns
returns c = λ p in_p.
    let row : c.from-columns.result ≡ c.args.size.columns = c.from-columns.ensures ∙ c.columns.ensures in
    around_is c.args.size c.args.first.now.words c.args.points.now.words c.requires.first c.requires.on_board
    c.minus.result.words c.shift_to_lower-left.result.words c.shift_to_higher.result.words c.minus-right.result.words c.shift_to_lower-above.result.words c.shift_to_higher-below.result.words
    c.minus.ensures c.shift_to_lower-left.ensures.moved c.shift_to_higher.ensures.moved c.shift_to_higher.ensures.low c.minus-right.ensures
    (rw row at c.shift_to_lower-above.ensures.moved) (rw row at c.shift_to_higher-below.ensures.moved) (rw row at c.shift_to_higher-below.ensures.low) p in_p
    c.or.result.words c.or-2.result.words c.or-3.result.words c.or.ensures c.or-2.ensures c.or-3.ensures
