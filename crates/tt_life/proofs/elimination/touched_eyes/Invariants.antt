use Rattle.std.proofs.Common.{◌≤◌, ◌-◌}
use Rattle.tt_sgf.specs.declared.bits.TheConstants.{BITS}
use Rattle.tt_life.proofs.FoundEyesLemmas.{AreEyesFound}
use Rattle.tt_life.proofs.elimination.touched_eyes.Given as goal

abbrev pub invariant-loop-size : goal.invariant-loop-size
invariant-loop-size l = (l.next ≤ BITS) × AreEyesFound l.size l.ground.space.words l.near.words l.ground.empty.words l.stones.words l.eyes.words l.done.words l.next

abbrev pub decreases-loop-size : goal.decreases-loop-size
decreases-loop-size l = BITS - l.next
