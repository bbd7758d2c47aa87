-- How a board keeps its colouring: a bit for each point in the words of Black's stones, and one in those of White's.
-- Private contracts alone cite these.
use Rattle.std.specs.Prelude.{◌≡◌, ℕ, ◌<◌, ◌≤◌, Option, Some, None, Bool, true, false, List, map}
use Rattle.std.specs.List.{range_with_len}
use Rattle.tt_sgf.specs.declared.size.TheConstants.{MOST_POINTS}
use Rattle.tt_sgf.specs.declared.bits.TheConstants.{BITS}
use Rattle.tt_sgf.specs.MachineWords.{bit_in}
use Rattle.tt_board.specs.declared.Colour.{Colour}
use Rattle.tt_board.specs.declared.Colour.TheVariants.{Black, White}
use Rattle.tt_board.specs.Position.{Colouring}

-- what stands on a point, by its bits
abbrev pub entry_of_bits : Bool → Bool → Option Colour
entry_of_bits true w = Some Black
entry_of_bits false true = Some White
entry_of_bits false false = None

-- the colouring of the first points
unfoldable pub shown : ℕ → List ℕ → List ℕ → Colouring
shown count black white = map (λ p. entry_of_bits (bit_in black p) (bit_in white p)) (range_with_len 0 count)

-- no point has both bits, and those past the last point are 0
pub record IsPlain (count : ℕ) (black white : List ℕ) : Type 0 where
  pub small : count ≤ MOST_POINTS
  pub apart : (p : ℕ) → p < BITS → bit_in black p ≡ true → bit_in white p ≡ false
  pub black_ends : (p : ℕ) → count ≤ p → p < BITS → bit_in black p ≡ false
  pub white_ends : (p : ℕ) → count ≤ p → p < BITS → bit_in white p ≡ false
