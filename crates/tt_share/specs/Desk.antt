-- The rule of a desk. Word 0 counts the draws, word 1 is the flag that stops them, and word 2 counts the asks for a grant.
use Rattle.std.specs.Prelude.{◌≡◌, ℕ, zero, suc, ◌+◌, ◌-◌, ◌≤◌, Bool, true, false, ◌||◌, leb, nat_eq, List, [], ◌∷◌, ◌++◌, length, sum_by, count_by}
use Rattle.std.specs.List.Sorted.{IsStrictlyIncreasing}
use mathlib.Core.Option.{some}
use lib.ListN.{get_elem?}
use Rattle.atomic_table.specs.Table.{State, Me}
use Rattle.tt_share.specs.declared.desk.rule.SeatKnowledge.{SeatKnowledge}
use Rattle.tt_share.specs.declared.desk.rule.DeskSize.{DeskSize}

-- how many of the desk's seats it stands for, the numbers that it drew and those that it got as grants, whether it raised the flag and
-- whether it saw it
abbrev pub knowledge_of : ℕ → List ℕ → List ℕ → Bool → Bool → SeatKnowledge
knowledge_of seat_count numbers grants flag saw_flag = record { seat_count = seat_count; numbers = numbers; grants = grants; flag = flag; saw_flag = saw_flag }

-- what is known before the first step
abbrev pub fresh_knowledge : ℕ → SeatKnowledge
fresh_knowledge seat_count = knowledge_of seat_count [] [] false false

-- what the one seat of a new desk knows
abbrev pub first_seat_knowledge : DeskSize → SeatKnowledge
first_seat_knowledge plan = fresh_knowledge plan.seats

-- what a seat knows when it is handed out
abbrev pub new_seat_knowledge : SeatKnowledge
new_seat_knowledge = fresh_knowledge 1

-- what a join leaves behind
abbrev pub no_knowledge : SeatKnowledge
no_knowledge = fresh_knowledge 0

abbrev pub knowledge_less_one_seat : SeatKnowledge → SeatKnowledge
knowledge_less_one_seat v = knowledge_of (v.seat_count - 1) v.numbers v.grants v.flag v.saw_flag

abbrev pub joined_knowledge : SeatKnowledge → SeatKnowledge → SeatKnowledge
joined_knowledge v w = knowledge_of (v.seat_count + w.seat_count) (v.numbers ++ w.numbers) (v.grants ++ w.grants) (v.flag || w.flag) (v.saw_flag || w.saw_flag)

abbrev pub knowledge_with_draw : SeatKnowledge → ℕ → SeatKnowledge
knowledge_with_draw v n = knowledge_of v.seat_count (v.numbers ++ n ∷ []) v.grants v.flag v.saw_flag

abbrev pub knowledge_with_grant : SeatKnowledge → ℕ → SeatKnowledge
knowledge_with_grant v n = knowledge_of v.seat_count v.numbers (v.grants ++ n ∷ []) v.flag v.saw_flag

abbrev pub knowledge_with_flag_raised : SeatKnowledge → SeatKnowledge
knowledge_with_flag_raised v = knowledge_of v.seat_count v.numbers v.grants true v.saw_flag

abbrev pub knowledge_with_look : SeatKnowledge → Bool → SeatKnowledge
knowledge_with_look v seen = knowledge_of v.seat_count v.numbers v.grants v.flag (v.saw_flag || seen)

-- the weights of the numbers below n, added up
abbrev pub sum_below : (ℕ → ℕ) → ℕ → ℕ
sum_below weight zero = 0
sum_below weight (suc n) = sum_below weight n + weight n

-- how many of the numbers are overdraw: not below the limit, so no jobs, or no grants
abbrev pub overdraw_count : ℕ → List ℕ → ℕ
overdraw_count limit numbers = count_by (λ n. leb limit n) numbers

-- what each seat knows meets P
abbrev pub EachSeat : (SeatKnowledge → Type 0) → List SeatKnowledge → Type 0
EachSeat P knowledge = (seat : ℕ) (v : SeatKnowledge) → get_elem? knowledge seat ≡ some v → P v

-- what some seat knows meets P
abbrev pub SomeSeat : (SeatKnowledge → Type 0) → List SeatKnowledge → Type 0
SomeSeat P knowledge = (seat : ℕ) × (v : SeatKnowledge) × (get_elem? knowledge seat ≡ some v) × P v

-- The numbers in the seats' lists are those below `count`, each once: however numbers are weighed, both weigh the same.
-- A seat knows at most as many numbers not below the limit as it stands for seats; where it stands for one, its numbers rise
pub record AreDealtNumbers (numbers : SeatKnowledge → List ℕ) (limit count : ℕ) (knowledge : List SeatKnowledge) : Type 0 where
  pub each_once : (weight : ℕ → ℕ) → sum_by (λ v. sum_by weight (numbers v)) knowledge ≡ sum_below weight count
  pub spares : EachSeat (λ v. overdraw_count limit (numbers v) ≤ v.seat_count) knowledge
  pub rising : EachSeat (λ v. v.seat_count ≡ 1 → IsStrictlyIncreasing (numbers v)) knowledge

-- the flag is raised only where some seat raised it, and where a seat raised it or saw it, it is
pub record IsFlagOfSeats (flag : ℕ) (knowledge : List SeatKnowledge) : Type 0 where
  pub bit : flag ≤ 1
  pub raised : flag ≡ 1 → SomeSeat (λ v. v.flag ≡ true) knowledge
  pub known : EachSeat (λ v. (v.flag || v.saw_flag) ≡ true → flag ≡ 1) knowledge

-- Together they stand for all of the desk's seats, and one that stands for none knows nothing
pub record IsDesk (plan : DeskSize) (drawn flag asked : ℕ) (knowledge : List SeatKnowledge) : Type 0 where
  pub seat_count : sum_by (λ v. v.seat_count) knowledge ≡ plan.seats
  pub spent : EachSeat (λ v. v.seat_count ≡ 0 → v ≡ no_knowledge) knowledge
  pub draws : AreDealtNumbers (λ v. v.numbers) plan.jobs drawn knowledge
  pub marked : IsFlagOfSeats flag knowledge
  pub grants : AreDealtNumbers (λ v. v.grants) plan.total asked knowledge

-- What holds between any two steps: the first word counts the draws, the second is the flag, and the third counts the asks
abbrev pub IsDeskInvariant : DeskSize → State (Unit {0}) SeatKnowledge → Type 0
IsDeskInvariant plan s = (drawn : ℕ) × (flag : ℕ) × (asked : ℕ) × (s.words ≡ drawn ∷ flag ∷ asked ∷ []) × IsDesk plan drawn flag asked s.views

abbrev pub SeatState : Type 0
SeatState = Me (Unit {0}) SeatKnowledge

-- n can follow the numbers of a seat: they go on rising, and as each desk number is found once, n is no less than their count
abbrev pub CanBeNextNumber : List ℕ → ℕ → Type 0
CanBeNextNumber numbers n = IsStrictlyIncreasing (numbers ++ n ∷ []) × (length numbers ≤ n)

abbrev pub IsSeatAfterDraw : SeatState → ℕ → SeatState → Type 0
IsSeatAfterDraw before found after = (after ≡ (knowledge_with_draw before.0 found, before.1)) × CanBeNextNumber before.0.numbers found

abbrev pub IsSeatAfterAsk : SeatState → ℕ → SeatState → Type 0
IsSeatAfterAsk before found after = (after ≡ (knowledge_with_grant before.0 found, before.1)) × CanBeNextNumber before.0.grants found

abbrev pub IsSeatAfterRaise : SeatState → SeatState → Type 0
IsSeatAfterRaise before after = after ≡ (knowledge_with_flag_raised before.0, before.1)

-- what was found is seen, and where this seat raised or saw the flag before, it was found
abbrev pub IsSeatAfterLook : SeatState → ℕ → SeatState → Type 0
IsSeatAfterLook before found after =
    (after ≡ (knowledge_with_look before.0 (nat_eq found 1), before.1)) × ((before.0.flag || before.0.saw_flag) ≡ true → found ≡ 1)
