-- `reaches`, the test of reaching: all that is known of it is that it is true exactly where there is a path.
use Rattle.std.specs.Prelude.{◌≡◌, ℕ, ◌+◌, ◌<◌, ◌⊎◌, ◌/◌, ◌%◌, List, length, replicate, Option, Some, None, Bool, true, false, IsTrue, slice_set}
use Rattle.std.proofs.Common.{zero, suc, inl, inr, refl, sym, subst, ◌∙◌, arith}
use Rattle.std.proofs.lemmas.Bool.{cases_eq, cases_lt, cases_Bool, false≢true}
use Rattle.std.proofs.lemmas.List.{length-set, length-replicate, get_or-replicate}
use Rattle.tt_board.specs.declared.Colour.{Colour}
use Rattle.tt_board.specs.declared.Colour.TheVariants.{Black, White}
use Rattle.tt_sgf.specs.declared.size.Size.{Size}
use Rattle.tt_sgf.specs.Sizes.{point_count}
use Rattle.tt_board.specs.Near.{AreConsecutive, IsNeighbour}
use Rattle.tt_board.specs.Position.{Colouring}
use Rattle.tt_board.specs.Reach.{entry_at, Reaches}
use Rattle.tt_board.specs.Fill.{is_flagged, IsFillableNext, IsSoundFill, IsReachingFill, unfilled_count}
use Rattle.tt_board.specs.ReachLaws.{sound_more, unfilled_fewer, filled}

-- a fact, or that it doesn't hold
abbrev pub Decision : Type 0 → Type 0
Decision P = P ⊎ (P → ⊥)

-- a decision as a test
pub decision_test : {P : Type 0} → Decision P → Bool
decision_test (inl _) = true
decision_test (inr _) = false

-- the test is true exactly where the fact holds
pub decision_test_is_exact : {P : Type 0} (d : Decision P) → (decision_test d ≡ true → P) × (P → decision_test d ≡ true)
unfolding decision_test
decision_test_is_exact (inl p) = (λ _. p, λ _. refl)
decision_test_is_exact (inr n) = (λ h. absurd (false≢true h), λ p. absurd (n p))

-- and false where it doesn't
pub decision_test_is_false : {P : Type 0} (d : Decision P) → (P → ⊥) → decision_test d ≡ false
unfolding decision_test
decision_test_is_false (inl p) none = absurd (none p)
decision_test_is_false (inr _) none = refl

-- both of two facts, one of them, or the opposite of one, decided by deciding these
pub decide_both : {P Q : Type 0} → Decision P → Decision Q → Decision (P × Q)
decide_both (inl p) (inl q) = inl (p, q)
decide_both (inl p) (inr isnt) = inr (λ h. isnt h.1)
decide_both (inr isnt) q = inr (λ h. isnt h.0)

pub decide_either : {P Q : Type 0} → Decision P → Decision Q → Decision (P ⊎ Q)
decide_either (inl p) q = inl (inl p)
decide_either (inr isnt) (inl q) = inl (inr q)
decide_either (inr isnt) (inr nor) = inr (λ h. elim h [ inl p ↦ isnt p | inr q ↦ nor q ])

pub decide_not : {P : Type 0} → Decision P → Decision (P → ⊥)
decide_not (inl p) = inr (λ h. h p)
decide_not (inr h) = inl h

-- the first numbers are tried one after the other
pub decide_some_below : (P : ℕ → Type 0) → ((k : ℕ) → Decision (P k)) → (n : ℕ) → Decision ((k : ℕ) × (k < n) × P k)
decide_some_below P each zero = inr (λ h. absurd (omega (arith, h.1)))
decide_some_below P each (suc n) =
    elim (each n) [
      | inl p ↦ inl (n, omega arith, p)
      | inr not_here ↦ elim (decide_some_below P each n) [
        | inl h ↦ inl (h.0, omega (arith, h.1), h.2)
        | inr none ↦ inr (λ h. elim (cases_eq h.0 n) [
          | inl same ↦ not_here (subst P same h.2)
          | inr apart ↦ none (h.0, omega (arith, h.1), h.2)
        ])
      ]
    ]

-- whether two entries are equal
pub decide_same_entry : (a b : Option Colour) → Decision (a ≡ b)
decide_same_entry None None = inl refl
decide_same_entry None (Some b) = inr (λ e. cc)
decide_same_entry (Some a) None = inr (λ e. cc)
decide_same_entry (Some Black) (Some Black) = inl refl
decide_same_entry (Some Black) (Some White) = inr (λ e. cc)
decide_same_entry (Some White) (Some Black) = inr (λ e. cc)
decide_same_entry (Some White) (Some White) = inl refl

-- whether one number is the other's successor
beside : (a b : ℕ) → Decision (AreConsecutive a b)
beside a b = decide_either (cases_eq (a + 1) b) (cases_eq (b + 1) a)

-- whether q is a point of the board, adjacent to p
pub decide_neighbour : (s : Size) (p q : ℕ) → Decision (IsNeighbour s p q)
decide_neighbour s p q = decide_both (below q (point_count s))
    (decide_either (decide_both (cases_eq (p / s.columns) (q / s.columns)) (beside (p % s.columns) (q % s.columns)))
    (decide_both (cases_eq (p % s.columns) (q % s.columns)) (beside (p / s.columns) (q / s.columns))))
  where
    below : (a b : ℕ) → Decision (a < b)
    below a b = elim (cases_lt a b) [ inl h ↦ inl h | inr h ↦ inr (λ l. omega arith) ]

module _ (s : Size) (c : Colouring) (e : Option Colour) where
  -- whether p may be filled next
  next : (m : List Bool) (p : ℕ) → Decision (IsFillableNext s c e m p)
  next m p = elim (decide_not (decide_same_entry (entry_at c p) e)) [
    | inr same ↦ inr (λ h. same h.0)
    | inl other ↦ elim (decide_some_below (λ q. IsNeighbour s p q × ((entry_at c q ≡ e) ⊎ ((entry_at c q ≡ entry_at c p) × IsTrue (is_flagged m q))))
        (λ q. decide_both (decide_neighbour s p q) (decide_either (decide_same_entry (entry_at c q) e) (decide_both (decide_same_entry (entry_at c q) (entry_at c p)) (in_fill q)))) (point_count s)) [
          | inl h ↦ inl (other, (h.0, h.2.0, h.2.1))
          | inr none ↦ inr (λ h. none (h.1.0, h.1.1.0, (h.1.1, h.1.2)))
        ]
  ]
    where
      in_fill : (q : ℕ) → Decision (IsTrue (is_flagged m q))
      in_fill q = elim (cases_Bool (is_flagged m q)) [ inl on ↦ inl on | inr off ↦ inr (λ on. false≢true (sym off ∙ on)) ]

  -- a fill that can't go on, from one that is sound: one more point each time
  grown : (room : ℕ) (m : List Bool) → length m ≡ point_count s → IsSoundFill s c e m → unfilled_count m < room
      → (m' : List Bool) × IsReachingFill s c e m'
  grown zero m fits sound enough = absurd (omega arith)
  grown (suc room) m fits sound enough =
      elim (decide_some_below (λ p. IsFillableNext s c e m p × (is_flagged m p ≡ false)) (λ p. decide_both (next m p) (bare p)) (point_count s)) [
        | inl h ↦ grown room (slice_set m h.0 true) (length-set m h.0 true ∙ fits)
            (sound_more s c e m h.0 (omega (arith, h.1)) sound h.2.0) (omega (arith, unfilled_fewer m h.0 (omega (arith, h.1)) h.2.1))
        | inr none ↦ (m, filled s c e m sound (λ p in_p nx. elim (cases_Bool (is_flagged m p)) [ inl on ↦ on | inr off ↦ absurd (none (p, in_p, (nx, off))) ]))
      ]
    where
      bare : (p : ℕ) → Decision (is_flagged m p ≡ false)
      bare p = elim (cases_Bool (is_flagged m p)) [ inl on ↦ inr (λ off. false≢true (sym off ∙ on)) | inr off ↦ inl off ]

  -- the fill of exactly those points of the board that reach e
  pub reaching_fill : (m : List Bool) × IsReachingFill s c e m
  reaching_fill =
      let m = replicate (point_count s) false in
      grown (unfilled_count m + 1) m (length-replicate (point_count s) false)
      (λ p in_p on. absurd (false≢true (sym (get_or-replicate (point_count s) p false false in_p) ∙ on))) (omega arith)

-- whether p reaches e
pub reaches : Size → Colouring → ℕ → Option Colour → Bool
reaches s c p e = is_flagged (reaching_fill s c e).0 p

-- of a point of the board the test is true exactly where it reaches e
pub reaches_is_exact : (s : Size) (c : Colouring) (p : ℕ) (e : Option Colour) → p < point_count s
    → (reaches s c p e ≡ true → Reaches s c p e) × (Reaches s c p e → reaches s c p e ≡ true)
unfolding reaches
reaches_is_exact s c p e in_p = (reaching_fill s c e).1 p in_p
