-- Bounds of boards: the stones that all of some boards have, and the hashes of these boards.
use Rattle.std.specs.Prelude.{◌≡◌, ℕ, ◌<◌, ◌/◌, ◌%◌, Option, Some, None, true}
use Rattle.tt_sgf.specs.Sizes.{point_count}
use Rattle.tt_sgf.specs.MachineWords.{bit_in}
use Rattle.tt_sgf.specs.declared.bits.Bits.{Bits}
use Rattle.tt_sgf.specs.declared.bits.TheConstants.{BITS}
use Rattle.tt_board.specs.declared.Colour.{Colour}
use Rattle.tt_board.specs.declared.Colour.TheVariants.{Black, White}
use Rattle.tt_board.specs.Position.{Position}
use Rattle.tt_board.specs.Play.{is_stone_of}
use Rattle.tt_board.specs.Reach.{entry_at}
use Rattle.tt_game.specs.declared.history.bloom_filter.TheConstants.{HASH_DIVISOR}
use Rattle.tt_game.specs.Mixing.{board_hash}
use Rattle.tt_proof.specs.declared.board_set_bounds.BoardSetBound.{BoardSetBound}

-- the board has each of these stones of the colour
abbrev pub HasAllStones : Bits → Colour → Position → Type 0
HasAllStones x k b =
    (p : ℕ) → p < BITS → bit_in x.words p ≡ true → (p < point_count b.size) × (is_stone_of (entry_at b.points p) k ≡ true)

-- the number of a bit for the board, by its hash
abbrev pub hash_bit : Position → ℕ
hash_bit b = board_hash b.size b.points / HASH_DIVISOR % BITS

-- the board lies within the bound; none does where there is no bound
abbrev pub MayContainBoard : Option BoardSetBound → Position → Type 0
MayContainBoard None b = ⊥
MayContainBoard (Some x) b = HasAllStones x.black Black b × HasAllStones x.white White b × (bit_in x.hashes.words (hash_bit b) ≡ true)

-- what lies within the other bound lies within this one
abbrev pub IsWiderOrSame : Option BoardSetBound → Option BoardSetBound → Type 0
IsWiderOrSame wide other = (b : Position) → MayContainBoard other b → MayContainBoard wide b
