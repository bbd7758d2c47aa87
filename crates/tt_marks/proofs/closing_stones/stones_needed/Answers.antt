use Rattle.std.proofs.Common.{◌≡◌, ◌<◌, ◌∙◌, true, false, not, ap, subst, sym, arith}
use Rattle.std.proofs.lemmas.Bool.{false≢true}
use Rattle.std.specs.Option.{is_some}
use Rattle.tt_sgf.specs.Sizes.{point_count}
use Rattle.tt_marks.specs.Closings.{EnclosesAlone}
use Rattle.tt_marks.proofs.ClosingLemmas.{none_more}
use Rattle.tt_marks.proofs.closing_stones.stones_needed.Goals as goal
use Rattle.tt_marks.proofs.closing_stones.stones_needed.Goals.{else-is_none-via-then-is_none+else-is_one_enough, else-is_none-via-else-is_none}

pub loop-number-preserved : goal.loop-number-preserved
loop-number-preserved c =
    let s = c.args.board.now.size in
    let points = c.args.board.now.points in
    let at = c.point_numbered-point.ensures.value in
    none_more s points c.args.colour c.args.stone c.loop-number.number
    (λ h.
    let here = subst (EnclosesAlone s points c.args.colour c.args.stone) (sym at) h in
    elim c.else-is_none.branch [
      | else-is_none-via-then-is_none+else-is_one_enough w ↦ false≢true (sym w.if-is_one_enough.false ∙ w.is_one_enough.ensures here)
      | else-is_none-via-else-is_none w ↦
          let empty : is_some c.at.result ≡ false = ap is_some (c.at.ensures ∙ here.1) in
          let stands : is_some c.at.result ≡ true = c.is_none.ensures ∙ ap not w.if-is_none.false in
          false≢true (sym empty ∙ stands)
    ])
    c.loop-number.invariant

pub returns-clause-fewest : goal.returns-clause-fewest
returns-clause-fewest c = λ several p h.
    let lt : p < point_count c.args.board.now.size = h.0 in
    let end : c.point_count-number-end.result ≡ point_count c.args.board.now.size = c.point_count-number-end.ensures.value ∙ ap point_count c.size-size.ensures.value in
    c.loop-number.invariant p (omega arith) h
