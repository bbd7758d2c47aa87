use Rattle.std.proofs.Common.{◌≡◌, take}
use Rattle.tt_board.specs.inside.Boards.{led}
use Rattle.tt_board.proofs.boards.differences.Differences.apply_all.Given as goal

abbrev pub invariant-loop-edit : goal.invariant-loop-edit
invariant-loop-edit l = l.points ≡ led l.base (take l.edit-index l.edit-items)
