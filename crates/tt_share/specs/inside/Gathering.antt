-- What a seat knows that stands for several.
use Rattle.std.specs.Prelude.{◌≡◌, ℕ, List, length, sum_by}
use Rattle.std.specs.List.{list_any}
use Rattle.tt_share.specs.declared.desk.rule.SeatKnowledge.{SeatKnowledge}
use Rattle.tt_share.specs.Seats.{SeatModel}

-- it knows what the seats know, joined
pub record Gathers (seats : List SeatModel) (v : SeatKnowledge) : Type 0 where
  pub seat_count : v.seat_count ≡ length seats
  pub numbers : (weight : ℕ → ℕ) → sum_by (λ s. sum_by weight s.numbers) seats ≡ sum_by weight v.numbers
  pub grants : (weight : ℕ → ℕ) → sum_by (λ s. sum_by weight s.grants) seats ≡ sum_by weight v.grants
  pub marks : list_any (λ s. s.flag) seats ≡ v.flag
  pub saw_flag : list_any (λ s. s.saw_flag) seats ≡ v.saw_flag
