-- What a key feeds a hasher, and its hash. The frame is no part of either: keys of one problem share that.
use Rattle.std.specs.Prelude.{ℕ, ◌+◌, ◌*◌, ◌/◌, ◌%◌, ◌^◌, List, [], ◌∷◌, ◌++◌, take}
use Rattle.std.specs.Hash as fed
use Rattle.std.specs.List.{flat_map}
use Rattle.tt_sgf.specs.declared.size.Size.{Size}
use Rattle.tt_sgf.specs.Sizes.{point_count}
use Rattle.tt_game.specs.declared.frame.Side.{Side}
use Rattle.tt_game.specs.declared.frame.Side.TheVariants.{Attacker, Defender}
use Rattle.tt_game.specs.declared.keys.Key.{Key}
use Rattle.tt_game.specs.declared.history.bloom_filter.TheConstants.{MIXER}
use Rattle.tt_game.specs.Mixing.{mix}
use Rattle.tt_game.specs.contracts.frame.SideHash.TheImpl as side_hash

-- how many words of 64 bits have a bit for each point of a board
abbrev pub words_in_use : Size → ℕ
words_in_use size = (point_count size + 63) / 64

-- the position: Black's words that are in use, White's, the side to move and the passes
unfoldable pub position_writes : Key → List (List ℕ)
position_writes k = flat_map fed.u64 (take (words_in_use k.size) k.black) ++ flat_map fed.u64 (take (words_in_use k.size) k.white)
    ++ (side_hash.ghosts).hash_input k.to_move ++ fed.u8 k.passes

-- the number of a side to move and so many passes
abbrev pub mover_and_passes_word : Side → ℕ → ℕ
mover_and_passes_word Attacker passes = passes
mover_and_passes_word Defender passes = 256 + passes

-- a number of 32 bits that other keys mostly haven't: what the words, the side to move and the passes make, multiplied once more, since
-- the last was only added; the lowest bits of the product say little, so it is the highest
unfoldable pub hash_of_key : Key → ℕ
hash_of_key k = mix (mix (mix 0 k.black) k.white) (mover_and_passes_word k.to_move k.passes ∷ []) * MIXER % 2 ^ 64 / 2 ^ 32
