-- Whether a colouring is in a history.
use Rattle.std.specs.Prelude.{◌≡◌, List, [], ◌∷◌, length, Bool, true, false, slice_index_or}
use Rattle.std.proofs.Common.{inl, inr, refl}
use Rattle.tt_board.specs.Position.{Colouring}
use Rattle.tt_game.specs.GameHistory.{IsInHistory}
use Rattle.tt_board.specs.Decided.{Decision, decide_some_below, decide_same_entry, decision_test, decision_test_is_exact, decision_test_is_false}

-- whether two colourings are equal
pub decide_same_colouring : (a b : Colouring) → Decision (a ≡ b)
decide_same_colouring [] [] = inl refl
decide_same_colouring [] (y ∷ b) = inr (λ e. cc)
decide_same_colouring (x ∷ a) [] = inr (λ e. cc)
decide_same_colouring (x ∷ a) (y ∷ b) = elim (decide_same_entry x y) [
  | inr apart ↦ inr (λ e. apart cc)
  | inl same ↦ elim (decide_same_colouring a b) [ inr apart ↦ inr (λ e. apart cc) | inl rest ↦ inl cc ]
]

-- the colouring is in the history, or it isn't
pub decide_in_history : (h : List Colouring) (c : Colouring) → Decision (IsInHistory h c)
decide_in_history h c = decide_some_below (λ k. slice_index_or h k c ≡ c) (λ k. decide_same_colouring (slice_index_or h k c) c) (length h)

-- whether the colouring is in the history
pub repeats : List Colouring → Colouring → Bool
repeats h c = decision_test (decide_in_history h c)

-- the test is true exactly where the colouring is in the history, and false where it isn't
pub repeats_is_exact : (h : List Colouring) (c : Colouring)
    → (repeats h c ≡ true → IsInHistory h c) × (IsInHistory h c → repeats h c ≡ true) × ((IsInHistory h c → ⊥) → repeats h c ≡ false)
unfolding repeats
repeats_is_exact h c = ((decision_test_is_exact (decide_in_history h c)).0, (decision_test_is_exact (decide_in_history h c)).1, decision_test_is_false (decide_in_history h c))
