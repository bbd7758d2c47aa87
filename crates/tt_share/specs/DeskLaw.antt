-- What the rule of a desk says, in plain words, of each state between any two steps.
use Rattle.std.specs.Prelude.{◌≡◌, ℕ, ◌+◌, ◌<◌, ◌≤◌, true, ◌⊎◌, List, length, slice_index, sum_by, count_by, nat_eq}
use Rattle.std.specs.List.Sorted.{IsStrictlyIncreasing}
use Rattle.atomic_table.specs.Table.{State}
use Rattle.tt_share.specs.declared.desk.rule.SeatKnowledge.{SeatKnowledge}
use Rattle.tt_share.specs.declared.desk.rule.DeskSize.{DeskSize}
use Rattle.tt_share.specs.Desk.{EachSeat, SomeSeat, IsDeskInvariant, overdraw_count, no_knowledge}

-- how often the number stands in the seats' lists
abbrev pub occurrences_in_seats : (SeatKnowledge → List ℕ) → ℕ → List SeatKnowledge → ℕ
occurrences_in_seats list number knowledge = sum_by (λ v. count_by (λ n. nat_eq n number) (list v)) knowledge

-- The word is the count of all numbers in all lists, and they are the numbers below it, each once.
-- Where a seat stands for itself alone its numbers rise, and all but the last are below the limit
pub record EachNumberBelowOnce (list : SeatKnowledge → List ℕ) (limit word : ℕ) (knowledge : List SeatKnowledge) : Type 0 where
  pub count : sum_by (λ v. length (list v)) knowledge ≡ word
  pub below : (number : ℕ) → number < word → occurrences_in_seats list number knowledge ≡ 1
  pub above : (number : ℕ) → word ≤ number → occurrences_in_seats list number knowledge ≡ 0
  pub rising : EachSeat (λ v. v.seat_count ≡ 1 → IsStrictlyIncreasing (list v)) knowledge
  pub one_overdraw : EachSeat (λ v. v.seat_count ≡ 1 → (k : ℕ) → k + 1 < length (list v) → slice_index (list v) k < limit) knowledge
  pub spares : EachSeat (λ v. overdraw_count limit (list v) ≤ v.seat_count) knowledge

-- the flag is 0 or 1, raised only where some seat raised it, and where a seat raised it or saw it, it is 1
pub record IsStopFlag (word : ℕ) (knowledge : List SeatKnowledge) : Type 0 where
  pub bit : (word ≡ 0) ⊎ (word ≡ 1)
  pub raised : word ≡ 1 → SomeSeat (λ v. v.flag ≡ true) knowledge
  pub flag : EachSeat (λ v. v.flag ≡ true → word ≡ 1) knowledge
  pub saw_flag : EachSeat (λ v. v.saw_flag ≡ true → word ≡ 1) knowledge

-- There are three words: the count of draws, the flag, and the count of the asks for a grant. Together they stand for
-- all of the desk's seats, and one that stands for none knows nothing
pub record IsDeskState (plan : DeskSize) (words : List ℕ) (knowledge : List SeatKnowledge) : Type 0 where
  pub three_words : length words ≡ 3
  pub seat_count : sum_by (λ v. v.seat_count) knowledge ≡ plan.seats
  pub spent : EachSeat (λ v. v.seat_count ≡ 0 → v ≡ no_knowledge) knowledge
  pub draws : EachNumberBelowOnce (λ v. v.numbers) plan.jobs (slice_index words 0) knowledge
  pub stop : IsStopFlag (slice_index words 1) knowledge
  pub grants : EachNumberBelowOnce (λ v. v.grants) plan.total (slice_index words 2) knowledge

abbrev pub DeskLaw : Type 0
DeskLaw = (plan : DeskSize) (s : State (Unit {0}) SeatKnowledge) → IsDeskInvariant plan s → IsDeskState plan s.words s.views
