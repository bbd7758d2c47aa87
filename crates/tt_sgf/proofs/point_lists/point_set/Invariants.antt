use Rattle.std.proofs.Common.{◌≡◌, ℕ, true, take}
use Rattle.std.specs.List.{list_any, list_all}
use Rattle.std.specs.FinSet as set
use Rattle.tt_sgf.specs.PointLists.{covers, is_entry}
use Rattle.tt_sgf.proofs.point_lists.point_set.Given as goal

abbrev pub invariant-loop-v : goal.invariant-loop-v
invariant-loop-v l = ((p : ℕ) → set.contains l.points p ≡ list_any (λ v. covers l.size v p) (take l.v-index l.values)) × (list_all (is_entry l.size) (take l.v-index l.values) ≡ true)
