-- The size of a partial tree, by which a recursion over it ends.
use Rattle.std.specs.Prelude.{ℕ, ◌+◌}
use Rattle.tt_search.specs.PartialTree.{PartialTree, fresh, won, closed, expanded, Children, no_more, more}

-- the children of a node count as one more below it
abbrev mutual
  pub weight : PartialTree → ℕ
  weight fresh = 0
  weight (won side) = 0
  weight (closed side strategy) = 0
  weight (expanded mover turns children) = weight_all children + 1

  pub weight_all : Children → ℕ
  weight_all no_more = 0
  weight_all (more tree children) = weight tree + 1 + weight_all children
