use Rattle.std.proofs.Common.{rules, ◌≡◌, ◌∷◌, ◌∙◌, Some, ap, subst, sym}
use Rattle.std.proofs.lemmas.List.Elements.{All-head}
use Rattle.tt_board.specs.Play.{other}
use Rattle.tt_board.specs.Reach.{entry_at}
use Rattle.tt_game.specs.Line.{LineWithUndo}
use Rattle.tt_marks.specs.declared.closing_stones.Closing.{Closing}
use Rattle.tt_marks.specs.Closings.{AreClosings, ClosesWall}
use Rattle.tsumego_show.proofs.Marked.{marked_setup}
use Rattle.tsumego_show.specs.Written.{IsGivenWithMore}
use Rattle.tsumego_show.proofs.marking.closed_tree.Goals as goal

pub closings-requires-clause-stands : goal.closings-requires-clause-stands
closings-requires-clause-stands c = ap (λ points. entry_at points c.args.stone) c.present-board.ensures.points ∙ c.requires.stands

pub returns : goal.returns
returns c =
    let k = c.args.colour in
    let q = c.args.stone in
    let tree = c.args.tree.now in
    let board = c.present-board.result.now in
    let best = c.in-Some.best.now in
    let others = c.in-Some.others.now in
    let first : c.as_slice.result.now ≡ best ∷ others = search rules in
    let listed = subst (AreClosings board.size board.points k q) (sym c.as_slice.ensures.value ∙ first) c.in_ok-ways.ensures in
    let closes = All-head (λ (m : Closing). ClosesWall board.size board.points k q m.stones m.region) best others listed.0 in (
      (
        k,
        c.requires.stands,
        subst (λ (l : LineWithUndo). IsGivenWithMore (Some (other l.frame.defender)) tree.bytes.now tree.main.nodes c.in_ok-text.text.items) c.in_ok-line.ensures c.in_ok-text.ensures.given,
      ),
      marked_setup c.args.name _ c.args.game q k c.other.result board.size board.points best.stones best.region c.copy.result c.in-Some-board_with_stones.next c.in_ok-line.line
          c.present-board.ensures.size c.present-board.ensures.points c.other.ensures c.copy.ensures c.requires.unmarked c.requires.open closes
          (c.is_lone_unless_named.ensures.0 c.if-is_lone_unless_named.false) c.in-Some-board_with_stones.ensures.0 c.in_ok-line.ensures c.in_ok-text.ensures.reads,
    )
