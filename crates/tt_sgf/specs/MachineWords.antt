-- Bits in words, as sets of points and colourings keep them and hand them out.
use Rattle.std.specs.Prelude.{◌≡◌, ℕ, ◌+◌, ◌-◌, ◌/◌, ◌%◌, ◌<◌, ◌≤◌, Bool, true, false, ◌||◌, List, ◌==◌}
use Rattle.std.specs.List.{slice_index}
use Rattle.std.specs.Int.{bit_at}
use Rattle.std.specs.Ordering.{nat_cmp}
use Rattle.std.specs.FinSet as set
use Rattle.tt_sgf.specs.declared.bits.TheConstants.{BITS}
use Rattle.tt_sgf.specs.declared.size.TheConstants.{MOST_POINTS}
use Rattle.tt_sgf.specs.Points.{passing}

-- whether the bit of a number is 1, with 64 of them in each word
unfoldable pub bit_in : List ℕ → ℕ → Bool
bit_in words n = bit_at (slice_index words (n / 64)) (n % 64) == 1

-- both have the same bits
abbrev pub AreSameBits : List ℕ → List ℕ → Type 0
AreSameBits a b = (n : ℕ) → n < BITS → bit_in a n ≡ bit_in b n

-- each bit that is 1 in the first words is 1 in one of the others too
abbrev pub IsWithinUnion : List ℕ → List ℕ → List ℕ → Type 0
IsWithinUnion wanted one other = (q : ℕ) → q < BITS → bit_in wanted q ≡ true → (bit_in one q || bit_in other q) ≡ true

-- the bits of no point, those of the numbers from `MOST_POINTS` on, are 0
abbrev pub AreBitsOfPoints : List ℕ → Type 0
AreBitsOfPoints words = (p : ℕ) → MOST_POINTS ≤ p → p < BITS → bit_in words p ≡ false

-- the numbers of points whose bits are 1
unfoldable pub points_of : List ℕ → set.FinSet nat_cmp
points_of words = passing (bit_in words) MOST_POINTS

-- the bit of each number below the count is 1 exactly where the number passes, and all other bits of six words are 0
pub record AreBitsOf (words : List ℕ) (count : ℕ) (test : ℕ → Bool) : Type 0 where
  pub below : (p : ℕ) → p < count → p < BITS → bit_in words p ≡ test p
  pub behind : (p : ℕ) → count ≤ p → p < BITS → bit_in words p ≡ false

-- the lowest bits of a word, with 0 for all others; a private contract alone cites it
abbrev pub AreLowBitsOf : ℕ → ℕ → ℕ → Type 0
AreLowBitsOf low word count = (i : ℕ) → i < 64 → (i < count → bit_at low i ≡ bit_at word i) × (count ≤ i → bit_at low i ≡ 0)

-- a word moved up by k bits, or down, with the bits of its neighbour in the room that this makes; private contracts alone cite these
abbrev pub IsShiftedLeft : ℕ → ℕ → ℕ → ℕ → Type 0
IsShiftedLeft shifted_left word below k = (i : ℕ) → i < 64 → (k ≤ i → bit_at shifted_left i ≡ bit_at word (i - k)) × (i < k → bit_at shifted_left i ≡ bit_at below (i + 64 - k))

abbrev pub IsShiftedRight : ℕ → ℕ → ℕ → ℕ → Type 0
IsShiftedRight shifted_right word above k = (i : ℕ) → i < 64 → (i + k < 64 → bit_at shifted_right i ≡ bit_at word (i + k)) × (64 ≤ i + k → bit_at shifted_right i ≡ bit_at above (i + k - 64))
