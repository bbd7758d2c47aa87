-- What is kept beside the children of an expanded node. For private contracts and proofs.
use Rattle.std.specs.Prelude.{◌≡◌}
use Rattle.tt_search.specs.inside.Choices.{node_with, best_index}
use Rattle.tt_search.specs.inside.ChildNodes.{choices_of, HasItsNodes, IsRank, AreFew}
use Rattle.tt_search.specs.declared.tree.children.ChildNodes.{ChildNodes}
use Rattle.tt_search.specs.inside.Pairs.{ArePair}
use Rattle.tt_search.specs.declared.tree.children.BestChild.{BestChild}
use Rattle.tt_search.specs.declared.tree.numbers.PhiDelta.{PhiDelta}

-- the index is that of the child to go to, and the rank says how many before it have grown
pub record IsKept (focus : BestChild) (children : ChildNodes) : Type 0 where
  pub few : AreFew children
  pub whole : HasItsNodes children
  pub index : focus.index ≡ best_index (choices_of focus.mover children)
  pub rank : IsRank focus.rank focus.index children

-- so they are kept, and these are the numbers of the side to move and of its opponent
pub record IsKeptWith (focus : BestChild) (children : ChildNodes) (numbers : PhiDelta) : Type 0 where
  pub kept : IsKept focus children
  pub pair : ArePair focus.mover (node_with (choices_of focus.mover children)) numbers
