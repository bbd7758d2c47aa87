-- Hashes, and which of them were noted. They say nothing of a game.
use Rattle.std.specs.Prelude.{◌≡◌, ℕ, ◌*◌, ◌/◌, ◌%◌, ◌^◌, ◌<◌, List, length, get_or, true}
use Rattle.tt_sgf.specs.declared.bits.Bits.{Bits}
use Rattle.tt_sgf.specs.declared.bits.TheConstants.{BITS}
use Rattle.tt_sgf.specs.declared.size.Size.{Size}
use Rattle.tt_sgf.specs.MachineWords.{bit_in}
use Rattle.tt_board.specs.Position.{Colouring}
use Rattle.tt_game.specs.declared.history.bloom_filter.BloomFilter.{BloomFilter}
use Rattle.tt_game.specs.declared.history.bloom_filter.TheConstants.{HASH_DIVISOR, MIXER, FILTER_BITS}
use Rattle.tt_game.specs.GameHistory.{IsInHistory}
use Rattle.tt_game.specs.Mixing.{mix_board}

-- the hash of a colouring: what the words of both colours make, multiplied once more, since the last word was only added
unfoldable pub filter_index : Size → Colouring → ℕ
filter_index size c = mix_board size c * MIXER % 2 ^ 64 / HASH_DIVISOR % FILTER_BITS

-- a hash was noted, or no row has a bit for it
abbrev pub MayHold : BloomFilter → ℕ → Type 0
MayHold s n = (d : Bits) → n / BITS < length s.rows.items → bit_in (get_or s.rows.items (n / BITS) d).words (n % BITS) ≡ true

-- the hashes of all colourings of a history were noted
abbrev pub MayHoldAll : BloomFilter → Size → List Colouring → Type 0
MayHoldAll s size h = (c : Colouring) → IsInHistory h c → MayHold s (filter_index size c)
