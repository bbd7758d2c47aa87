-- What workers hand back. Only private contracts cite these.
use Rattle.std.specs.Prelude.{◌≡◌, ℕ, ◌+◌, ◌++◌, ◌<◌, ◌≤◌, ◌⊎◌, Bool, IsTrue, All, List, [], Option, length, get_or, map, Some, None, slice_get, sum_by, count_by, nat_eq}
use Rattle.tt_game.specs.declared.frame.Side.{Side}
use Rattle.tt_game.specs.Line.{LineWithUndo}
use Rattle.tt_search.specs.declared.limits.Limits.{Limits}
use Rattle.tt_share.specs.inside.Jobs.{IsResult, IsForTotal, IsStuck, IsDropped, IsWinFor, end_of, kept_of}
use Rattle.tt_share.specs.inside.Results.{HasEnd, HasResult, IsPastStuck}
use Rattle.tt_share.specs.Seats.{DeskModel, SeatModel, EndsInOverdraw, granted_among}
use Rattle.tt_share.specs.declared.jobs.JobResult.{JobResult}
use Rattle.tt_share.specs.declared.jobs.SearchedJob.{SearchedJob}
use Rattle.tt_share.specs.declared.workers.HandedBack.{HandedBack}
use Rattle.tt_share.specs.declared.workers.WorkerPlace.{WorkerPlace}

-- some result is a win for the side
abbrev pub SomeWin : Side → List SearchedJob → Type 0
SomeWin side searched = (i : ℕ) × (f : SearchedJob) × (slice_get searched i ≡ Some f) × IsWinFor side f.end

-- a result that is a win for the side is the last one, and the flag was raised
abbrev pub WinsAreLast : Side → Bool → List SearchedJob → Type 0
WinsAreLast side flag searched = (i : ℕ) (f : SearchedJob) → slice_get searched i ≡ Some f → IsWinFor side f.end → (i + 1 ≡ length searched) × IsTrue flag

-- the numbers of the jobs whose results these are
abbrev pub jobs_of : List SearchedJob → List ℕ
jobs_of searched = map (λ (f : SearchedJob). f.job) searched

-- the same numbers, and behind them only such as are no jobs
abbrev pub AddsOverdraw : ℕ → List ℕ → List ℕ → Type 0
AddsOverdraw jobs before after = (overdraw : List ℕ) × (after ≡ before ++ overdraw) × All (λ n. jobs ≤ n) overdraw

-- each worker hands back a result of each job that its seat drew, in that order
abbrev pub AllDrawn : ℕ → List SeatModel → List HandedBack → Type 0
AllDrawn jobs seats work = (i : ℕ) (seat : SeatModel) (back : HandedBack) → slice_get seats i ≡ Some seat → slice_get work i ≡ Some back
    → AddsOverdraw jobs (seat.numbers ++ jobs_of back.searched.items) back.seat.numbers

-- the place of a worker that hasn't begun
abbrev pub place_of : SeatModel → WorkerPlace
place_of seat = record { seat = Some seat; back = None }

-- a fresh seat of the desk's stands at the place
abbrev pub IsSeated : DeskModel → WorkerPlace → Type 0
IsSeated desk place = (seat : SeatModel) × (place.seat ≡ Some seat) × (seat.desk ≡ desk.id) × (seat.grants ≡ [])

-- a worker has left there what it hands back
abbrev pub HasBack : WorkerPlace → Type 0
HasBack place = (back : HandedBack) × (place.back ≡ Some back)

-- some result is no proof
abbrev pub SomeStuck : List SearchedJob → Type 0
SomeStuck searched = (j : ℕ) × (g : SearchedJob) × (slice_get searched j ≡ Some g) × IsStuck g.end

-- where a search was dropped, an earlier one is stuck; so the first that is stuck is kept
abbrev pub KeepsFirstStuck : List SearchedJob → Type 0
KeepsFirstStuck searched = (i : ℕ) (f : SearchedJob) → slice_get searched i ≡ Some f → IsDropped f.end
    → (j : ℕ) × (g : SearchedJob) × (j < i) × (slice_get searched j ≡ Some g) × IsStuck g.end

-- how often the job is among those of the results
abbrev pub times : ℕ → List SearchedJob → ℕ
times job searched = count_by (λ (f : SearchedJob). nat_eq f.job job) searched

-- how many nodes were expanded for the results
abbrev pub spent_on : List SearchedJob → ℕ
spent_on searched = sum_by (λ (f : SearchedJob). f.spent) searched

-- and by all workers
abbrev pub spent_by_all : List HandedBack → ℕ
spent_by_all work = sum_by (λ (b : HandedBack). spent_on b.searched.items) work

-- 0 where the job is one of the line's and has no result, else 1
abbrev pub held_in : Option (Option JobResult) → ℕ
held_in None = 1
held_in (Some None) = 0
held_in (Some (Some end)) = 1

abbrev pub held : List (Option JobResult) → ℕ → ℕ
held ends job = held_in (slice_get ends job)

-- each result is of a job that has none yet, and no two are of one job
abbrev pub AreApart : List (Option JobResult) → List SearchedJob → Type 0
AreApart ends searched = (job : ℕ) → held ends job + times job searched ≤ 1

-- so it is with the results of all workers
abbrev pub AllApart : List (Option JobResult) → List HandedBack → Type 0
AllApart ends work = (job : ℕ) → held ends job + sum_by (λ (b : HandedBack). times job b.searched.items) work ≤ 1

-- some result is stuck for the total
abbrev pub SomeTotal : List SearchedJob → Type 0
SomeTotal searched = (i : ℕ) × (f : SearchedJob) × (slice_get searched i ≡ Some f) × IsForTotal (end_of f.end)

-- each result that the worker hands back is that of its job's turn
abbrev pub AreSearched : LineWithUndo → Limits → HandedBack → Type 0
AreSearched line limits back = All (IsResult line limits) back.searched.items

-- What a worker hands back to a desk
pub record IsWork (line : LineWithUndo) (limits : Limits) (desk : DeskModel) (back : HandedBack) : Type 0 where
  -- the seat is the desk's
  pub seat : back.seat.desk ≡ desk.id
  -- each result is that of its job's turn
  pub searched : AreSearched line limits back
  -- no job was drawn after one that was won
  pub wins : WinsAreLast line.state.to_move back.seat.flag back.searched.items
  -- each is of a job that the seat drew, as often at most
  pub jobs : All (λ (f : SearchedJob). f.job < desk.jobs) back.searched.items
  pub drawn : (job : ℕ) → times job back.searched.items ≤ count_by (λ n. nat_eq n job) back.seat.numbers
  -- what was expanded for them is what the seat was granted of the total, and it was refused where one is stuck for the total
  pub spent : (total : ℕ) → desk.total ≡ Some total → spent_on back.searched.items ≡ granted_among total back.seat.grants
  pub refused : SomeTotal back.searched.items → (total : ℕ) × (desk.total ≡ Some total) × EndsInOverdraw total back.seat.grants

-- the job has a result, unless it is none of the line's
abbrev pub IsPlaced : List (Option JobResult) → SearchedJob → Type 0
IsPlaced ends searched = searched.job < length ends → HasResult ends searched.job

-- each job whose result the worker handed back has one: that, or one that stood at its slot before
abbrev pub AllPlaced : List (Option JobResult) → HandedBack → Type 0
AllPlaced ends back = All (IsPlaced ends) back.searched.items

-- one of these results is the job's, and the end is that one as it is kept: its search is dropped only where a lesser job is
-- stuck
abbrev pub IsGiven : List (Option JobResult) → List SearchedJob → ℕ → JobResult → Type 0
IsGiven ends searched job end = (i : ℕ) × (f : SearchedJob) × (past_stuck : Bool) × (slice_get searched i ≡ Some f) × (f.job ≡ job)
    × (IsTrue past_stuck → IsPastStuck ends job) × (end ≡ kept_of past_stuck f.end)

-- each result stood there before, or is one of these
abbrev pub AreGiven : List (Option JobResult) → List (Option JobResult) → List SearchedJob → Type 0
AreGiven before after searched = (job : ℕ) (end : JobResult) → HasEnd after job end → HasEnd before job end ⊎ IsGiven after searched job end

-- each result stood there before, or is one that a worker handed back
abbrev pub OnlyHandedBack : List (Option JobResult) → List (Option JobResult) → List HandedBack → Type 0
OnlyHandedBack before after work = (job : ℕ) (end : JobResult) → HasEnd after job end → HasEnd before job end
    ⊎ ((i : ℕ) × (back : HandedBack) × (slice_get work i ≡ Some back) × IsGiven after back.searched.items job end)

-- A worker works with the seat at a place, and leaves there what it hands back
pub record WorksAtPlace (line : LineWithUndo) (limits : Limits) (desk : DeskModel) (before after : WorkerPlace) : Type 0 where
  pub back : HandedBack
  pub left : after.back ≡ Some back
  pub work : IsWork line limits desk back
  pub drawn : (seat : SeatModel) → before.seat ≡ Some seat → AddsOverdraw desk.jobs (seat.numbers ++ jobs_of back.searched.items) back.seat.numbers

-- so it is at each place
abbrev pub AllWorkAtPlaces : LineWithUndo → Limits → DeskModel → List WorkerPlace → List WorkerPlace → Type 0
AllWorkAtPlaces line limits desk before after = (i : ℕ) (d : WorkerPlace) → i < length before → WorksAtPlace line limits desk (get_or before i d) (get_or after i d)
