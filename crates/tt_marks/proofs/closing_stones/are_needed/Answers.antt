use Rattle.std.proofs.Common.{rules, ◌≡◌, ◌∙◌, ap, subst, sym}
use Rattle.std.proofs.lemmas.Bool.{false≢true}
use Rattle.std.specs.FinSet as set
use Rattle.tt_marks.specs.Closings.{AreEnclosing}
use Rattle.tt_marks.proofs.ClosingLemmas.{needed_more, without_one}
use Rattle.tt_marks.proofs.closing_stones.are_needed.Goals as goal
use Rattle.tt_marks.proofs.closing_stones.are_needed.Goals.{then-has+else-are_enclosing, else-has}

pub loop-number-preserved : goal.loop-number-preserved
loop-number-preserved c =
    let s = c.args.board.now.size in
    let points = c.args.board.now.points in
    let stones = c.args.stones.now in
    let n = c.loop-number.number in
    elim c.if-has.branch [
      | then-has+else-are_enclosing w ↦
          let one : w.with.result ≡ set.insert set.empty n = search rules in
          let others = without_one stones w.with.result w.minus-others.result n one w.minus-others.ensures in
          needed_more s points c.args.colour c.args.stone stones n
          (λ _ h. false≢true (sym w.if-are_enclosing.false ∙ w.are_enclosing.ensures (subst (AreEnclosing s points c.args.colour c.args.stone) (sym others) h)))
          c.loop-number.invariant
      | else-has w ↦
          needed_more s points c.args.colour c.args.stone stones n
          (λ h _. false≢true (sym w.if-has.false ∙ c.has.ensures ∙ ap (set.contains stones) c.point_numbered-point.ensures.value ∙ h)) c.loop-number.invariant
    ]
