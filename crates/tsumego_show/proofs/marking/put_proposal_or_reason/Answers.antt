use Rattle.std.proofs.Common.{rules}
use Rattle.tsumego_show.proofs.Marked.{kept_without_group, marked_there}
use Rattle.tsumego_show.proofs.Taken.{taken_in_game}
use Rattle.tsumego_show.proofs.marking.put_proposal_or_reason.Goals as goal

pub tree_with_any_marks-requires : goal.tree_with_any_marks-requires
tree_with_any_marks-requires c =
    let board = c.copy-board.result in
    taken_in_game c.args.wanted.name c.args.game board.size board.points c.in_ok-stone.stone (search rules) (search rules) c.in_ok-stone.ensures

pub returns-in-Some : goal.returns-in-Some
returns-in-Some c =
    let tree = c.args.tree.now in
    marked_there c.args.wanted tree.bytes.now tree.main.nodes c.in-Some.text.items c.args.game c.requires.game c.requires.no_triangles (search rules)
    (rw c.in-Some.is at c.in_ok-text.ensures)

pub returns : goal.returns
returns c =
    let tree = c.args.tree.now in
    kept_without_group c.args.wanted tree.bytes.now tree.main.nodes c.put_reason.new.shown.text.items c.args.game c.requires.game
    (rw c.in_default.is at c.in_ok-text.ensures) c.in_ok-put_reason.ensures
