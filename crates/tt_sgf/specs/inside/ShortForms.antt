-- Small bytes as the code keeps them. For private contracts and proofs.
use Rattle.std.specs.Prelude.{ℕ, ◌≤◌, List, take}
use Rattle.tt_sgf.specs.declared.nodes.small_bytes.ByteStorage.{ByteStorage}
use Rattle.tt_sgf.specs.declared.nodes.small_bytes.TheConstants.{SHORT}
use Rattle.tt_sgf.specs.declared.nodes.small_bytes.ByteStorage.TheVariants.{Short, Long}

-- the first ones of the array, or those of the block
abbrev pub kept_bytes : ByteStorage → List ℕ
kept_bytes (Short count short) = take count short
kept_bytes (Long long) = long.value.items

-- no more than the array has
abbrev pub IsWithinArray : ByteStorage → Type 0
IsWithinArray (Short count short) = count ≤ SHORT
IsWithinArray (Long long) = Unit {0}
