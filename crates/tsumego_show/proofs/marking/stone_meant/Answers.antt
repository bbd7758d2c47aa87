use Rattle.std.proofs.Common.{Option, subst, sym}
use Rattle.tsumego_show.specs.declared.mode.PointName.{PointName}
use Rattle.tsumego_show.proofs.Taken.{proposed_taken}
use Rattle.tsumego_show.specs.Written.{IsTaken}
use Rattle.tsumego_show.proofs.marking.stone_meant.Goals as goal

pub returns-in_ok-proposed_stone-in-None : goal.returns-in_ok-proposed_stone-in-None
returns-in_ok-proposed_stone-in-None c =
    let board = c.args.board.now in
    let found = c.in_ok-proposed_stone-in-None.field-0 in
    subst (λ (name : Option PointName). IsTaken name board.size board.points found) (sym c.in-None.is)
    (proposed_taken board.size board.points found c.in_ok-proposed_stone-in-None.ensures)
