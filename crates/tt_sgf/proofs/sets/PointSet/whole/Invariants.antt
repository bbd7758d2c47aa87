use Rattle.std.proofs.Common.{◌≡◌, true}
use Rattle.tt_sgf.specs.Points.{passing}
use Rattle.tt_sgf.proofs.sets.PointSet.whole.Given as goal

abbrev pub invariant-loop-number : goal.invariant-loop-number
invariant-loop-number l = l.made ≡ passing (λ q. true) l.number
