use Rattle.std.proofs.Common.{◌≡◌, get_or, sym, ap, ◌∙◌}
use Rattle.std.proofs.lemmas.List.{get_or_read}
use Rattle.tt_board.specs.declared.boards.differences.Edit.TheVariants.{Black}
use Rattle.tt_board.specs.Position.{Colouring}
use Rattle.tt_board.specs.inside.Differences.{edited}
use Rattle.tt_board.proofs.DifferencesLemmas.{led_more}
use Rattle.tt_board.proofs.boards.differences.Differences.apply_all.Goals as goal

pub loop-edit-preserved : goal.loop-edit-preserved
loop-edit-preserved c =
    let items = c.deref-edit-items.result.now in let i = c.loop-edit.edit-index in
    let read : c.edit-item.result ≡ get_or items i (Black 0) = get_or_read items i c.edit-item.result c.loop-edit-test.true c.edit-item.is (Black 0) in
    c.apply_edit.ensures ∙ ap (edited c.loop-edit.points) (c.edit.ensures ∙ read)
    ∙ ap (λ (x : Colouring). edited x (get_or items i (Black 0))) c.loop-edit.invariant ∙ sym (led_more c.args.base.now items i (Black 0) c.loop-edit-test.true)
