-- The edges of a node as the code keeps them. For private contracts and proofs.
use Rattle.std.specs.Prelude.{◌≤◌, List, take}
use Rattle.tt_search.specs.declared.tree.edge_storage.EdgeStorage.{EdgeStorage}
use Rattle.tt_search.specs.declared.tree.edge_storage.EdgeStorage.TheVariants.{Short, Long}
use Rattle.tt_search.specs.declared.tree.edges.Edge.{Edge}

-- the first ones of the array, or those of the block
abbrev pub edges_of : EdgeStorage → List Edge
edges_of (Short count short) = take count short
edges_of (Long long) = long.value.items

-- no more than the array has
abbrev pub AreWithin : EdgeStorage → Type 0
AreWithin (Short count short) = count ≤ 11
AreWithin (Long long) = Unit {0}
