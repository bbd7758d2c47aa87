use Rattle.std.proofs.Common.{rules, ◌≡◌, length, sym, ap, ◌∙◌}
use Rattle.std.specs.Arc.{arc_value}
use Rattle.tt_sgf.specs.Sizes.{point_count}
use Rattle.tt_board.specs.Position.{Position}
use Rattle.tt_board.proofs.DifferencesLemmas.{length_led}
use Rattle.tt_board.proofs.boards.board_deltas.BoardDeltas.last.Goals as goal

pub from_colouring-requires-clause-fits : goal.from_colouring-requires-clause-fits
from_colouring-requires-clause-fits c =
    let base = arc_value c.self.inside.base in
    let one : c.deref.result.now ≡ base = search rules in
    let two : c.deref-2.result.now ≡ base = search rules in
    ap length c.apply_all.ensures ∙ length_led c.colouring.result.now c.self.inside.steps ∙ ap length c.colouring.ensures.value ∙ c.colouring.ensures.fits
    ∙ ap (λ (b : Position). point_count b.size) two ∙ sym (ap point_count c.size.ensures.value ∙ ap (λ (b : Position). point_count b.size) one)
