-- Lists of boards in the order of their hashes.
use Rattle.std.specs.Prelude.{ℕ, ◌<◌, ◌≤◌, List, length}
use Rattle.std.specs.List.Sorted.{IsNonDecreasingBy, IsPartitionPoint}
use Rattle.tt_board.specs.Position.{Position}
use Rattle.tt_game.specs.Mixing.{board_hash}

abbrev pub hash_of_board : Position → ℕ
hash_of_board b = board_hash b.size b.points

abbrev pub DoHashesRise : List Position → Type 0
DoHashesRise bs = IsNonDecreasingBy hash_of_board bs

-- the boards before the index have lesser hashes, and those from it on haven't
abbrev pub IsPlaceOfHash : List Position → ℕ → ℕ → Type 0
IsPlaceOfHash bs hash k = (k ≤ length bs) × IsPartitionPoint (λ b. hash_of_board b < hash) (λ b. hash ≤ hash_of_board b) bs k
