-- What counts of grants say. Only private contracts cite this.
use Rattle.std.specs.Prelude.{◌≡◌, ◌≤◌, ℕ, Bool, true, false, Option, Some, None, List, []}
use Rattle.tt_share.specs.Seats.{DeskModel, SeatModel, seat_of, EndsInOverdraw, granted_among}

-- where there is a total, the count is that of the seat's grants, and it was refused only where the seat was; without one
-- nothing is refused
abbrev pub Tallies : Option ℕ → List ℕ → ℕ → Bool → Type 0
Tallies total grants count refused =
    (total ≡ None → refused ≡ false) × ((n : ℕ) → total ≡ Some n → (count ≡ granted_among n grants) × (refused ≡ true → EndsInOverdraw n grants))

-- what asks leave of a seat with its desk: all but the seat's grants
abbrev pub source_of : DeskModel → SeatModel → DeskModel × SeatModel
source_of desk seat = (desk, seat_of seat.desk seat.numbers [] seat.flag seat.saw_flag)

-- what one caller was granted of a total: no more than it, and all of it where an ask was refused; without one nothing is refused
abbrev pub IsGranted : Option ℕ → ℕ → Bool → Type 0
IsGranted total granted refused =
    (total ≡ None → refused ≡ false) × ((n : ℕ) → total ≡ Some n → (granted ≤ n) × (refused ≡ true → granted ≡ n))
