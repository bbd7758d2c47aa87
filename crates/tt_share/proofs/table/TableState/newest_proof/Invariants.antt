use Rattle.std.proofs.Common.{◌≡◌, ◌≤◌, length}
use Rattle.tt_game.specs.Keys.{key_of}
use Rattle.tt_share.specs.Table.{slots_with_key}
use Rattle.tt_share.proofs.Newest.{AmongFirst}
use Rattle.tt_share.proofs.table.TableState.newest_proof.Given as goal

abbrev pub invariant-loop-left : goal.invariant-loop-left
invariant-loop-left l = (l.places ≡ slots_with_key (key_of l.line.frame l.line.state) l.self) × (l.left ≤ length l.places) × AmongFirst l.line l.s l.self l.places l.left

abbrev pub decreases-loop-left : goal.decreases-loop-left
decreases-loop-left l = l.left
