use Rattle.std.proofs.Common.{rules, ◌≡◌}
use Rattle.std.specs.FinSet as set
use Rattle.tt_marks.proofs.ClosingLemmas.{enclosed_there}
use Rattle.tt_marks.proofs.closing_stones.is_one_enough.Goals as goal

pub returns-in-Some : goal.returns-in-Some
returns-in-Some c = λ h.
    let one : c.with-one.result ≡ set.insert set.empty c.args.point = search rules in
    c.is_of_inner_group.ensures
    (enclosed_there c.args.board.now.size c.args.board.now.points c.args.colour c.other.result c.args.stone c.args.point c.with-one.result c.in-Some.next c.other.ensures one
    c.in-Some.ensures h)
