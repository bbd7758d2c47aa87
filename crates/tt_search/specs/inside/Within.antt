-- How deep a partial tree may reach.
use Rattle.std.specs.Prelude.{ℕ, ◌-◌, ◌<◌, ◌≤◌}
use Rattle.tt_sgf.specs.declared.size.Size.{Size}
use Rattle.tt_proof.specs.Strategy.{depth, IsInOrder}
use Rattle.tt_search.specs.PartialTree.{PartialTree, fresh, won, closed, expanded, Children, no_more, more}

-- nothing in the tree reaches deeper than the room, the strategies that close leaves among it; these are in order
abbrev mutual
  pub StaysWithin : Size → ℕ → PartialTree → Type 0
  StaysWithin size room fresh = Unit {0}
  StaysWithin size room (won side) = Unit {0}
  StaysWithin size room (closed side strategy) = (depth strategy ≤ room) × IsInOrder size strategy
  StaysWithin size room (expanded mover turns children) = (0 < room) × AllStayWithin size (room - 1) children

  pub AllStayWithin : Size → ℕ → Children → Type 0
  AllStayWithin size room no_more = Unit {0}
  AllStayWithin size room (more tree children) = StaysWithin size room tree × AllStayWithin size room children
