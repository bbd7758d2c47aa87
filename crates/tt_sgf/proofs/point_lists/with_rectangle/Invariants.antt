use Rattle.std.proofs.Common.{◌≡◌, ℕ, ◌&&◌, ◌||◌, ltb}
use Rattle.std.specs.FinSet as set
use Rattle.tt_sgf.specs.PointLists.{in_rectangle}
use Rattle.tt_sgf.proofs.point_lists.with_rectangle.Given as goal

abbrev pub invariant-loop-number : goal.invariant-loop-number
invariant-loop-number l = (q : ℕ) → set.contains l.made q ≡ (set.contains l.points q || (ltb q l.number && in_rectangle l.size.columns l.e q))
