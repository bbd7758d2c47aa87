-- What contracts see of a desk and of a seat.
use Rattle.std.specs.Prelude.{◌≡◌, ℕ, ◌+◌, ◌-◌, ◌<◌, ◌≤◌, Bool, false, ltb, cond, min, List, [], ◌∷◌, ◌++◌, length, slice_index, Option, Some, None}
use Rattle.std.specs.Prelude.{sum_by, count_by, nat_eq, IsTrue, All, Contains, MatchOption}
use Rattle.std.specs.List.{list_any}
use Rattle.std.specs.List.Sorted.{IsStrictlyIncreasing}
use Rattle.atomic_table.specs.Seated.{TableId}
use Rattle.tt_share.specs.declared.desk.Closed.{Closed}

-- which desk it is, how many jobs and seats it has, and how many grants it gives: none for no bound
pub record DeskModel : Type 0 where
  pub id : TableId
  pub jobs : ℕ
  pub seats : ℕ
  pub total : Option ℕ

-- the desk that made the seat, the numbers that the seat drew and those that it got as grants, whether it raised the flag and whether it saw it
pub record SeatModel : Type 0 where
  pub desk : TableId
  pub numbers : List ℕ
  pub grants : List ℕ
  pub flag : Bool
  pub saw_flag : Bool

abbrev pub seat_of : TableId → List ℕ → List ℕ → Bool → Bool → SeatModel
seat_of desk numbers grants flag saw_flag = record { desk = desk; numbers = numbers; grants = grants; flag = flag; saw_flag = saw_flag }

-- a seat that has made no step
abbrev pub fresh_seat : TableId → SeatModel
fresh_seat desk = seat_of desk [] [] false false

-- the last number, or 0 where there is none
abbrev pub last_number : List ℕ → ℕ
last_number numbers = slice_index numbers (length numbers - 1)

-- the list ends with an overdraw number: one that is not below the limit, so no job, or no grant
abbrev pub EndsInOverdraw : ℕ → List ℕ → Type 0
EndsInOverdraw limit numbers = limit ≤ last_number numbers

-- n joins numbers that rise
pub record AppendsNumber (before : List ℕ) (n : ℕ) (after : List ℕ) : Type 0 where
  pub added : after ≡ before ++ n ∷ []
  pub rising : IsStrictlyIncreasing after
  pub long : length before ≤ n

-- the seat drew n
pub record SeatDraws (jobs : ℕ) (before : SeatModel) (n : ℕ) (answer : Option ℕ) (after : SeatModel) : Type 0 where
  pub seat : after ≡ seat_of before.desk after.numbers before.grants before.flag before.saw_flag
  pub joins : AppendsNumber before.numbers n after.numbers
  pub answer_is : answer ≡ cond (ltb n jobs) (Some n) None

-- the seat asked for a grant and got n, which is one where it is below the total
pub record SeatAsksGrant (total : ℕ) (before : SeatModel) (n : ℕ) (answer : Bool) (after : SeatModel) : Type 0 where
  pub seat : after ≡ seat_of before.desk before.numbers after.grants before.flag before.saw_flag
  pub joins : AppendsNumber before.grants n after.grants
  pub answer_is : answer ≡ ltb n total

-- how many of the numbers are grants: below the total
abbrev pub granted_among : ℕ → List ℕ → ℕ
granted_among total grants = count_by (λ n. ltb n total) grants

-- how often the number stands in the seats' lists
abbrev pub occurrences_in_seats : (SeatModel → List ℕ) → ℕ → List SeatModel → ℕ
occurrences_in_seats list number seats = sum_by (λ s. count_by (λ n. nat_eq n number) (list s)) seats

-- the numbers in the seats' lists are those below `count`, each once
pub record EachNumberInOneSeat (list : SeatModel → List ℕ) (count : ℕ) (seats : List SeatModel) : Type 0 where
  pub count_is : sum_by (λ s. length (list s)) seats ≡ count
  pub below : (number : ℕ) → number < count → occurrences_in_seats list number seats ≡ 1
  pub above : (number : ℕ) → count ≤ number → occurrences_in_seats list number seats ≡ 0

-- where some seat's list ends with a number that is not below the limit, each number below it was drawn, once
abbrev pub OverdrawMeansAllDrawn : (SeatModel → List ℕ) → ℕ → List SeatModel → Type 0
OverdrawMeansAllDrawn list limit seats = (s : SeatModel) → Contains seats s → EndsInOverdraw limit (list s) → (number : ℕ) → number < limit → occurrences_in_seats list number seats ≡ 1

-- What all seats show of the grants of a desk with a total, once it is closed
pub record AreGrantsOfTotal (total granted : ℕ) (seats : List SeatModel) : Type 0 where
  -- the numbers that they got are those below the count of asks, each once; that count or the total, the lesser, was granted
  pub asked : (word : ℕ) × EachNumberInOneSeat (λ s. s.grants) word seats × (granted ≡ min word total)
  -- so many of the numbers that they got are grants
  pub granted_is : granted ≡ sum_by (λ s. granted_among total s.grants) seats
  -- where some seat was refused, all of the total was granted
  pub refused : (s : SeatModel) → Contains seats s → EndsInOverdraw total s.grants → granted ≡ total

-- What all seats of a desk show once it is closed
pub record AreDeskCounts (desk : DeskModel) (seats : List SeatModel) (closed : Closed) : Type 0 where
  -- these are all of the desk's seats
  pub seats_are_all : length seats ≡ desk.seats
  -- the count of draws is that of the numbers that they drew, which are those below it, each once
  pub draws_each_once : EachNumberInOneSeat (λ s. s.numbers) closed.draws seats
  -- where some seat drew a number that is no job, each job was drawn, once
  pub jobs_drawn : OverdrawMeansAllDrawn (λ s. s.numbers) desk.jobs seats
  -- no more numbers were drawn than there are jobs and seats
  pub draws_most : closed.draws ≤ desk.jobs + desk.seats
  -- where every seat did, there were as many draws as jobs and seats
  pub draws_are : All (λ s. EndsInOverdraw desk.jobs s.numbers) seats → closed.draws ≡ desk.jobs + desk.seats
  -- where some seat saw the flag, some seat raised it
  pub sighted : IsTrue (list_any (λ s. s.saw_flag) seats) → IsTrue (list_any (λ s. s.flag) seats)
  -- what was granted of the total; without one nothing is counted
  pub granted : MatchOption desk.total (closed.granted ≡ 0) (λ total. AreGrantsOfTotal total closed.granted seats)
