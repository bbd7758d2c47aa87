-- What is so of the part of an input up to a limit.
use Rattle.std.specs.Prelude.{◌≡◌, ◌≤◌, ◌⊎◌, ℕ, List, length, take}
use Rattle.std.proofs.Common.{inl, inr, arith}
use Rattle.std.proofs.lemmas.Bool.{cases_lt}
use Rattle.std.proofs.lemmas.List.{take_all, length-take-le}

-- it is the whole, or as long as the limit
pub prefix_is_whole_or_full : (most : ℕ) (input : List ℕ) → (take most input ≡ input) ⊎ ((length (take most input) ≡ most) × (most ≤ length input))
prefix_is_whole_or_full most input = elim (cases_lt most (length input)) [
  | inl lt ↦ let le : most ≤ length input = omega arith in inr (length-take-le most input le, le)
  | inr le ↦ inl (take_all most input le)
]
