-- What an expanded node offers to the side to move: its turns, and a tree behind each. For private contracts and proofs.
use Rattle.std.specs.Prelude.{ℕ, List, slice_index_or, slice_set}
use Rattle.tt_game.specs.declared.frame.Side.{Side}
use Rattle.tt_game.specs.declared.turns.Turn.{Turn}
use Rattle.tt_search.specs.PartialTree.{PartialTree, fresh, expanded}
use Rattle.tt_search.specs.inside.Children.{children_of}
use Rattle.tt_search.specs.MostProving.{index_of_best}

pub record Choices : Type 0 where
  pub mover : Side
  pub turns : List Turn
  pub trees : List PartialTree

-- the node that has them
abbrev pub node_with : Choices → PartialTree
node_with c = expanded c.mover c.turns (children_of c.trees)

-- the index of the child to go to
abbrev pub best_index : Choices → ℕ
best_index c = index_of_best c.mover (children_of c.trees)

-- that child
abbrev pub best_child : Choices → PartialTree
best_child c = slice_index_or c.trees (best_index c) fresh

-- the choices with this tree in its index
abbrev pub with_best : Choices → PartialTree → Choices
with_best c tree = record { mover = c.mover; turns = c.turns; trees = slice_set c.trees (best_index c) tree }
