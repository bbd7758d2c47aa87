-- The colourings of the history that plays would repeat, gathered point by point.
use Rattle.std.proofs.Common.{◌≡◌, ◌↔◌, ◌<◌, ◌≤◌, ◌+◌, ◌⊎◌, ℕ, inl, inr, arith, List, [], sym, subst, ◌∙◌, Contains, false, true≢false}
use Rattle.std.proofs.lemmas.Bool.{cases_lt}
use Rattle.std.specs.FinSet as set
use Rattle.tt_board.specs.Position.{Colouring}
use Rattle.tt_game.specs.Game.{State, history, colouring_after_play}
use Rattle.tt_game.specs.Line.{IsBarredBySuperko}
use Rattle.tt_game.specs.declared.frame.Frame.{Frame}
use Rattle.tt_proof.specs.Footprints.{IsRepeatedByPlay}
use Rattle.tt_proof.specs.inside.Collecting.{RepeatsBelow}
use Rattle.tt_game.specs.laws.Members.{in_of_contains}

module _ (f : Frame) (s : State) where
  -- where superko bars a play on p, the colouring that it would make is one more
  pub one_more : (A A' : Colouring → Type 0) (p : ℕ) (points : Colouring) → IsBarredBySuperko f s p → points ≡ colouring_after_play f s p →
      ((c : Colouring) → A' c ↔ (A c ⊎ (c ≡ points))) → (c : Colouring) → A' c ↔ (A c ⊎ (IsBarredBySuperko f s p × (colouring_after_play f s p ≡ c)))
  one_more A A' p points barred is h c = (λ a. to ((h c).0 a), λ w. (h c).1 (from w))
    where
      to : A c ⊎ (c ≡ points) → A c ⊎ (IsBarredBySuperko f s p × (colouring_after_play f s p ≡ c))
      to (inl a) = inl a
      to (inr e) = inr (barred, sym (e ∙ is))

      from : A c ⊎ (IsBarredBySuperko f s p × (colouring_after_play f s p ≡ c)) → A c ⊎ (c ≡ points)
      from (inl a) = inl a
      from (inr w) = inr (sym (is ∙ w.1))

  -- where superko bars none, there is no more
  pub none_more : (A : Colouring → Type 0) (p : ℕ) → (IsBarredBySuperko f s p → ⊥) → (c : Colouring) → A c ↔ (A c ⊎ (IsBarredBySuperko f s p × (colouring_after_play f s p ≡ c)))
  none_more A p free c = (λ a. inl a, from)
    where
      from : A c ⊎ (IsBarredBySuperko f s p × (colouring_after_play f s p ≡ c)) → A c
      from (inl a) = a
      from (inr w) = absurd (free w.0)

  -- the next point of the region was looked at
  pub below_more : (A A' : Colouring → Type 0) (from p : ℕ) → from ≤ p → ((q : ℕ) → from ≤ q → q < p → set.contains f.region q ≡ false) →
      ((c : Colouring) → A c ↔ RepeatsBelow f s from c) → ((c : Colouring) → A' c ↔ (A c ⊎ (IsBarredBySuperko f s p × (colouring_after_play f s p ≡ c)))) →
      (c : Colouring) → A' c ↔ RepeatsBelow f s (p + 1) c
  below_more A A' from p le outside before more c = (λ a. to ((more c).0 a), λ w. (more c).1 (back w))
    where
      to : A c ⊎ (IsBarredBySuperko f s p × (colouring_after_play f s p ≡ c)) → RepeatsBelow f s (p + 1) c
      to (inl a) = let w = (before c).0 a in let lt = w.1 in (w.0, omega (arith, lt, le), w.2, w.3)
      to (inr w) = (p, omega arith, w.0, w.1)

      back : RepeatsBelow f s (p + 1) c → A c ⊎ (IsBarredBySuperko f s p × (colouring_after_play f s p ≡ c))
      back w = elim (cases_lt w.0 from) [
        | inl lt ↦ inl ((before c).1 (w.0, lt, w.2, w.3))
        | inr ge ↦ elim (cases_lt w.0 p) [
          | inl lt ↦ absurd (true≢false (sym w.2.2 ∙ outside w.0 ge lt))
          | inr top ↦
              let lt = w.1 in
              let e : w.0 ≡ p = omega (arith, lt, top) in
              inr (subst (λ q. IsBarredBySuperko f s q × (colouring_after_play f s q ≡ c)) e (w.2, w.3))
        ]
      ]

  -- at the start nothing was looked at
  pub below_none : (needs : List Colouring) → needs ≡ [] → (c : Colouring) → Contains needs c ↔ RepeatsBelow f s 0 c
  below_none needs e c = (
    λ m. absurd (in_of_contains [] c (subst (λ cs. Contains cs c) e m)),
    λ w. let lt = w.1 in absurd (omega (arith, lt)),
  )

  -- the region has no point from the number on
  pub below_all : (A : Colouring → Type 0) (n : ℕ) → ((q : ℕ) → n ≤ q → set.contains f.region q ≡ false) →
      ((c : Colouring) → A c ↔ RepeatsBelow f s n c) → (c : Colouring) → A c ↔ IsRepeatedByPlay f (history s) [] s c
  below_all A n outside before c = (λ a. to ((before c).0 a), λ r. (before c).1 (back r))
    where
      to : RepeatsBelow f s n c → IsRepeatedByPlay f (history s) [] s c
      to w = (
        (w.0, w.2.0, w.2.1, w.2.2, w.3),
        subst (λ x. Contains (history s) x) w.3 w.2.3,
        λ m. in_of_contains [] c m,
      )

      back : IsRepeatedByPlay f (history s) [] s c → RepeatsBelow f s n c
      back r =
          let p = r.0.0 in
          elim (cases_lt p n) [
            | inl lt ↦ (p, lt, (r.0.1, r.0.2, r.0.3, subst (λ x. Contains (history s) x) (sym r.0.4) r.1), r.0.4)
            | inr ge ↦ absurd (true≢false (sym r.0.3 ∙ outside p ge))
          ]
