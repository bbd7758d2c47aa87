-- Sets of points that are kept as bits: the points beside those of a set, and those of a set that reach something.
use Rattle.std.specs.Prelude.{◌≡◌, ℕ, ◌%◌, ◌<◌, ◌≤◌, ◌↔◌, List, Option, true, false}
use Rattle.tt_sgf.specs.declared.size.Size.{Size}
use Rattle.tt_sgf.specs.declared.bits.TheConstants.{BITS}
use Rattle.tt_sgf.specs.Sizes.{point_count}
use Rattle.tt_sgf.specs.MachineWords.{bit_in}
use Rattle.tt_board.specs.declared.Colour.{Colour}
use Rattle.tt_board.specs.Near.{IsNeighbour}
use Rattle.tt_board.specs.Position.{Colouring}
use Rattle.tt_board.specs.Reach.{entry_at, Reaches}

-- all bits are of points of a board of this size
abbrev pub AreOn : Size → List ℕ → Type 0
AreOn s words = (q : ℕ) → point_count s ≤ q → q < BITS → bit_in words q ≡ false

-- of the points of the board, the set has those of the first column
abbrev pub AreFirstColumn : Size → List ℕ → Type 0
AreFirstColumn s words = (p : ℕ) → p < point_count s → (bit_in words p ≡ true) ↔ (p % s.columns ≡ 0)

-- p is adjacent to a point of the set
abbrev pub IsBesideSome : Size → List ℕ → ℕ → Type 0
IsBesideSome s words p = (q : ℕ) × IsNeighbour s p q × (bit_in words q ≡ true)

-- the set has the points of the board with this entry, and no other one of the board
abbrev pub AreThose : Size → List ℕ → Colouring → Option Colour → Type 0
AreThose s words c a = (p : ℕ) → p < point_count s → (bit_in words p ≡ true) ↔ (entry_at c p ≡ a)

-- it has those of them that reach e
abbrev pub AreReaching : Size → List ℕ → Colouring → Option Colour → Option Colour → Type 0
AreReaching s words c a e = (p : ℕ) → p < point_count s → (bit_in words p ≡ true) ↔ ((entry_at c p ≡ a) × Reaches s c p e)
