use Rattle.std.proofs.Common.{sym, ap, ◌∙◌, get_or, Some}
use Rattle.tt_sgf.specs.declared.point_lists.Rectangle.{Rectangle}
use Rattle.tt_sgf.specs.PointLists.{rectangle_of_text}
use Rattle.tt_sgf.proofs.EntryLemmas.{two, five, two_in, two_out, five_in, five_first, five_second, no_entry, between_is}
use Rattle.tt_sgf.proofs.point_lists.read_rectangle.Goals as goal
use Rattle.tt_sgf.proofs.point_lists.read_rectangle.Goals.{else-text-eq5-via-then-text-eq5+else-text-eq58, else-text-eq5-via-else-text-eq5}

pub returns-in_err-column : goal.returns-in_err-column
returns-in_err-column c =
    let size = c.args.size in
    let text = c.args.text.now in
    rw c.from_residual.ensures (sym (ap (rectangle_of_text size) (two text c.if-text-eq2.true) ∙ two_out size (get_or text 0 0) (get_or text 1 0) c.in_err-column.ensures))

pub returns-then-text-eq2 : goal.returns-then-text-eq2
returns-then-text-eq2 c =
    let size = c.args.size in
    let text = c.args.text.now in
    let e = c.in_ok-column.ensures in
    ap (λ (r : Rectangle). Some r) (c.rectangle_between.ensures ∙ between_is _ _ _ _ _ _ _ _ e.1 e.2 e.1 e.2)
    ∙ sym (ap (rectangle_of_text size) (two text c.if-text-eq2.true) ∙ two_in size (get_or text 0 0) (get_or text 1 0) e.0)

pub returns-in_err-column-2 : goal.returns-in_err-column-2
returns-in_err-column-2 c =
    let size = c.args.size in
    let text = c.args.text.now in
    rw c.from_residual-in_err-column-2.ensures (sym (ap (rectangle_of_text size) (five text c.if-text-eq5.true)
    ∙ five_first size (get_or text 0 0) (get_or text 1 0) (get_or text 2 0) (get_or text 3 0) (get_or text 4 0) c.if-text-eq58.true c.in_err-column-2.ensures))

pub returns-in_err-other_column : goal.returns-in_err-other_column
returns-in_err-other_column c =
    let size = c.args.size in
    let text = c.args.text.now in
    let e = c.in_ok-column-2.ensures in
    rw c.from_residual-in_err-other_column.ensures (sym (ap (rectangle_of_text size) (five text c.if-text-eq5.true)
    ∙ five_second size (get_or text 0 0) (get_or text 1 0) (get_or text 2 0) (get_or text 3 0) (get_or text 4 0) c.if-text-eq58.true e.0 c.in_err-other_column.ensures))

pub returns-then-text-eq58 : goal.returns-then-text-eq58
returns-then-text-eq58 c =
    let size = c.args.size in
    let text = c.args.text.now in
    let e = c.in_ok-column-2.ensures in
    let f = c.in_ok-other_column.ensures in
    ap (λ (r : Rectangle). Some r) (c.rectangle_between-then-text-eq58.ensures ∙ between_is _ _ _ _ _ _ _ _ e.1 e.2 f.1 f.2)
    ∙ sym (ap (rectangle_of_text size) (five text c.if-text-eq5.true)
    ∙ five_in size (get_or text 0 0) (get_or text 1 0) (get_or text 2 0) (get_or text 3 0) (get_or text 4 0) c.if-text-eq58.true e.0 f.0)

pub returns : goal.returns
returns c =
    sym (no_entry c.args.size c.args.text.now c.if-text-eq2.false (elim c.else-text-eq5.branch [
      | else-text-eq5-via-then-text-eq5+else-text-eq58 w ↦ λ _. w.if-text-eq58.false
      | else-text-eq5-via-else-text-eq5 w ↦ λ h _. w.if-text-eq5.false h
    ]))
