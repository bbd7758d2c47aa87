-- Counts of the points that pass a test.
use Rattle.std.proofs.Common.{◌≡◌, ◌≢◌, ℕ, zero, suc, add-one, ◌+◌, ◌<◌, ◌≤◌, ◌⊎◌, ◌&&◌, List, [], ◌∷◌, Bool, true, false, not, cond, count_by, get_or, length, Contains, inl}
use Rattle.std.proofs.Common.{inr, refl, sym, ap, subst, ◌∙◌, arith}
use Rattle.std.specs.List.{range_with_len}
use Rattle.std.proofs.lemmas.Bool.{false≢true, cases_eq, cases_lt, cases_Bool, and_parts, and_from, and_right}
use Rattle.std.proofs.lemmas.Bool.Decides.{same_from_decides}
use Rattle.std.proofs.lemmas.List.{get_or_default}
use Rattle.std.proofs.lemmas.List.Elements.{Contains-get_or}
use Rattle.std.proofs.lemmas.List.Sums.{sum_by-cons}
use Rattle.tt_board.specs.Decided.{Decision, decide_some_below, decision_test, decision_test_is_exact, decision_test_is_false}
use Rattle.tt_board.specs.inside.Chains.{IsEachOnce}
use Rattle.tt_board.proofs.PlayLemmas.{score_more}

-- decisions of facts that follow from each other are alike
pub same_decided : {P Q : Type 0} (d : Decision P) (e : Decision Q) → (P → Q) → (Q → P) → decision_test d ≡ decision_test e
same_decided d e there back = same_from_decides {P = Rattle.std.specs.Prelude.IsTrue (decision_test e)} (decision_test d) (decision_test e)
    ((λ h. (decision_test_is_exact e).1 (there ((decision_test_is_exact d).0 h))), (λ h. (decision_test_is_exact d).1 (back ((decision_test_is_exact e).0 h)))) ((λ h. h), (λ h. h))

-- a count is more than 0 where something passes
pub count_some : (f : ℕ → Bool) (n k : ℕ) → k < n → f k ≡ true → 0 < count_by f (range_with_len 0 n)
count_some f zero k below on = absurd (omega arith)
count_some f (suc n) k below on =
    let more = score_more f n in
    elim (cases_eq k n) [
      | inl same ↦
          let one : ◌≡◌ {A = ℕ} (cond (f n) 1 0) 1 = ap (λ b. cond b 1 0) (ap f (sym same) ∙ on) in
          subst (λ m. 0 < count_by f (range_with_len 0 m)) (add-one n) (omega (arith, more, one))
      | inr apart ↦
          let before = count_some f n k (omega arith) on in
          subst (λ m. 0 < count_by f (range_with_len 0 m)) (add-one n) (omega (arith, more, before))
    ]

-- and then something passes
pub some_counted : (f : ℕ → Bool) (n : ℕ) → 0 < count_by f (range_with_len 0 n) → (k : ℕ) × (k < n) × (f k ≡ true)
some_counted f zero h = absurd (omega arith)
some_counted f (suc n) h =
    let h' = subst (λ m. 0 < count_by f (range_with_len 0 m)) (sym (add-one n)) h in
    elim (cases_Bool (f n)) [
      | inl on ↦ (n, omega arith, on)
      | inr off ↦
          let none : ◌≡◌ {A = ℕ} (cond (f n) 1 0) 0 = ap (λ b. cond b 1 0) off in
          let w = some_counted f n (omega (arith, score_more f n, none, h')) in
          (w.0, omega (arith, w.1), w.2)
    ]

-- two tests that agree but at p count the same but for p
pub count_change : (f g : ℕ → Bool) (n p : ℕ) → ((k : ℕ) → k < n → k ≢ p → f k ≡ g k)
    → (p < n → count_by g (range_with_len 0 n) + cond (f p) 1 0 ≡ count_by f (range_with_len 0 n) + cond (g p) 1 0)
    × (n ≤ p → count_by g (range_with_len 0 n) ≡ count_by f (range_with_len 0 n))
count_change f g zero p agree = (λ h. absurd (omega arith), λ h. refl)
count_change f g (suc n) p agree =
    let ih = count_change f g n p (λ k below apart. agree k (omega arith) apart) in
    let mf = subst (λ m. count_by f (range_with_len 0 m) ≡ count_by f (range_with_len 0 n) + cond (f n) 1 0) (add-one n) (score_more f n) in
    let mg = subst (λ m. count_by g (range_with_len 0 m) ≡ count_by g (range_with_len 0 n) + cond (g n) 1 0) (add-one n) (score_more g n) in (
      λ below. elim (cases_eq p n) [
        | inl same ↦
            let before = ih.1 (omega arith) in
            let ef : ◌≡◌ {A = ℕ} (cond (f p) 1 0) (cond (f n) 1 0) = ap (λ k. cond (f k) 1 0) same in
            let eg : ◌≡◌ {A = ℕ} (cond (g p) 1 0) (cond (g n) 1 0) = ap (λ k. cond (g k) 1 0) same in
            omega (arith, mf, mg, before, ef, eg)
        | inr apart ↦
            let before = ih.0 (omega arith) in
            let e : ◌≡◌ {A = ℕ} (cond (f n) 1 0) (cond (g n) 1 0) = ap (λ b. cond b 1 0) (agree n (omega arith) (λ h. apart (sym h))) in
            omega (arith, mf, mg, before, e)
      ],
      λ above.
          let before = ih.1 (omega arith) in
          let e : ◌≡◌ {A = ℕ} (cond (f n) 1 0) (cond (g n) 1 0) = ap (λ b. cond b 1 0) (agree n (omega arith) (λ h. omega arith)) in
          omega (arith, mf, mg, before, e),
    )

-- two tests that agree count the same
pub count_same : (f g : ℕ → Bool) (n : ℕ) → ((k : ℕ) → k < n → f k ≡ g k) → count_by g (range_with_len 0 n) ≡ count_by f (range_with_len 0 n)
count_same f g n agree = (count_change f g n n (λ k below apart. agree k below)).1 (omega arith)

-- a test that is one of two others, never both, counts what both count
pub count_both : (f g h : ℕ → Bool) (n : ℕ) → ((k : ℕ) → k < n → ((h k ≡ f k) × (g k ≡ false)) ⊎ ((h k ≡ true) × (f k ≡ false) × (g k ≡ true)))
    → count_by h (range_with_len 0 n) ≡ count_by f (range_with_len 0 n) + count_by g (range_with_len 0 n)
count_both f g h zero agree = refl
count_both f g h (suc n) agree =
    let before = count_both f g h n (λ k below. agree k (omega arith)) in
    let mf = subst (λ m. count_by f (range_with_len 0 m) ≡ count_by f (range_with_len 0 n) + cond (f n) 1 0) (add-one n) (score_more f n) in
    let mg = subst (λ m. count_by g (range_with_len 0 m) ≡ count_by g (range_with_len 0 n) + cond (g n) 1 0) (add-one n) (score_more g n) in
    let mh = subst (λ m. count_by h (range_with_len 0 m) ≡ count_by h (range_with_len 0 n) + cond (h n) 1 0) (add-one n) (score_more h n) in
    elim (agree n (omega arith)) [
      | inl a ↦
          let eh : ◌≡◌ {A = ℕ} (cond (h n) 1 0) (cond (f n) 1 0) = ap (λ b. cond b 1 0) a.0 in
          let eg : ◌≡◌ {A = ℕ} (cond (g n) 1 0) 0 = ap (λ b. cond b 1 0) a.1 in
          omega (arith, mf, mg, mh, before, eh, eg)
      | inr a ↦
          let eh : ◌≡◌ {A = ℕ} (cond (h n) 1 0) 1 = ap (λ b. cond b 1 0) a.0 in
          let ef : ◌≡◌ {A = ℕ} (cond (f n) 1 0) 0 = ap (λ b. cond b 1 0) a.1 in
          let eg : ◌≡◌ {A = ℕ} (cond (g n) 1 0) 1 = ap (λ b. cond b 1 0) a.2 in
          omega (arith, mf, mg, mh, before, eh, ef, eg)
    ]

-- a test and a true one is the test
and_true : (a b : Bool) → b ≡ true → (a && b) ≡ a
and_true true b e = e
and_true false b e = refl

-- where two or more pass, one other than p does
pub another_counted : (f : ℕ → Bool) (n p : ℕ) → 1 < count_by f (range_with_len 0 n) → (k : ℕ) × (k < n) × (f k ≡ true) × (k ≢ p)
another_counted f n p many =
    let g : ℕ → Bool = λ k. f k && not (decision_test {P = k ≡ p} (cases_eq k p)) in
    let change = count_change f g n p (λ k below apart. sym (and_true (f k) _ (ap not (decision_test_is_false {P = k ≡ p} (cases_eq k p) apart)))) in
    let off : g p ≡ false = and_right (f p) _ (ap not ((decision_test_is_exact {P = p ≡ p} (cases_eq p p)).1 refl)) in
    let none : ◌≡◌ {A = ℕ} (cond (g p) 1 0) 0 = ap (λ b. cond b 1 0) off in
    let some : 0 < count_by g (range_with_len 0 n) = elim (cases_lt p n) [
      | inl below ↦ elim (cases_Bool (f p)) [
        | inl on ↦ let one : ◌≡◌ {A = ℕ} (cond (f p) 1 0) 1 = ap (λ b. cond b 1 0) on in omega (arith, change.0 below, one, none)
        | inr bare ↦ let zero' : ◌≡◌ {A = ℕ} (cond (f p) 1 0) 0 = ap (λ b. cond b 1 0) bare in omega (arith, change.0 below, zero', none)
      ]
      | inr above ↦ omega (arith, change.1 above)
    ] in
    let w = some_counted g n some in
    let parts = and_parts (f w.0) _ w.2 in
    (w.0, w.1, parts.0, λ same. false≢true (sym (ap not ((decision_test_is_exact {P = w.0 ≡ p} (cases_eq w.0 p)).1 same)) ∙ parts.1))

-- where one passes, and one other, the count is more than one
pub two_counted : (f : ℕ → Bool) (n p q : ℕ) → p < n → q < n → q ≢ p → f p ≡ true → f q ≡ true → 1 < count_by f (range_with_len 0 n)
two_counted f n p q in_p in_q apart on also =
    let g : ℕ → Bool = λ k. f k && not (decision_test {P = k ≡ p} (cases_eq k p)) in
    let change = (count_change f g n p (λ k below away. sym (and_true (f k) _ (ap not (decision_test_is_false {P = k ≡ p} (cases_eq k p) away))))).0 in_p in
    let off : g p ≡ false = and_right (f p) _ (ap not ((decision_test_is_exact {P = p ≡ p} (cases_eq p p)).1 refl)) in
    let none : ◌≡◌ {A = ℕ} (cond (g p) 1 0) 0 = ap (λ b. cond b 1 0) off in
    let one : ◌≡◌ {A = ℕ} (cond (f p) 1 0) 1 = ap (λ b. cond b 1 0) on in
    let still : g q ≡ true = and_from (f q) _ also (ap not (decision_test_is_false {P = q ≡ p} (cases_eq q p) apart)) in
    let some = count_some g n q in_q still in
    omega (arith, change, none, one, some)

-- whether a list has a number
pub in_list : (xs : List ℕ) (q : ℕ) → Decision (Contains xs q)
in_list xs q = elim (decide_some_below (λ i. get_or xs i 0 ≡ q) (λ i. cases_eq (get_or xs i 0) q) (length xs)) [
  | inl h ↦ inl (subst (Contains xs) h.2 (Contains-get_or xs h.0 0 h.1))
  | inr none ↦ inr (λ h. none (h.0, h.1, get_or_default xs h.0 0 q h.1 ∙ h.2))
]

-- the points of a list that has each once, counted over the board
pub count_within : (f : ℕ → Bool) (n : ℕ) (xs : List ℕ) → IsEachOnce xs → ((q : ℕ) → Contains xs q → q < n)
    → count_by (λ q. f q && decision_test (in_list xs q)) (range_with_len 0 n) ≡ count_by f xs
count_within f n [] once inside = none n
  where
    none : (m : ℕ) → count_by (λ q. f q && decision_test (in_list [] q)) (range_with_len 0 m) ≡ 0
    none m = count_same (λ q. false) (λ q. f q && decision_test (in_list [] q)) m (λ k below. sym (and_right (f k) _ (decision_test_is_false (in_list [] k) (λ h. omega arith)))) ∙ zeros m
      where
        zeros : (m : ℕ) → count_by (λ (q : ℕ). false) (range_with_len 0 m) ≡ 0
        zeros zero = refl
        zeros (suc m) = let more = score_more (λ q. false) m in let before = zeros m in
            subst (λ k. count_by (λ (q : ℕ). false) (range_with_len 0 k) ≡ 0) (add-one m) (omega (arith, more, before))
count_within f n (x ∷ xs) once inside =
    let head : Contains (x ∷ xs) x = (0, omega arith, refl) in
    let later : (q : ℕ) → Contains xs q → Contains (x ∷ xs) q = λ q h. (suc h.0, omega (arith, h.1), h.2) in
    let fresh : Contains xs x → ⊥ = λ h. once 0 (suc h.0) (omega arith) (omega (arith, h.1)) (sym (get_or_default xs h.0 0 x h.1 ∙ h.2)) in
    let rest = count_within f n xs (λ i j lt in'. once (suc i) (suc j) (omega arith) (omega arith)) (λ q h. inside q (later q h)) in
    let old : ℕ → Bool = λ q. f q && decision_test (in_list xs q) in
    let new : ℕ → Bool = λ q. f q && decision_test (in_list (x ∷ xs) q) in
    let change = (count_change old new n x (λ k below apart. ap (λ b. f k && b) (same_decided (in_list xs k) (in_list (x ∷ xs) k) (later k) (earlier k apart)))).0 (inside x head) in
    let off : ◌≡◌ {A = ℕ} (cond (old x) 1 0) 0 = ap (λ b. cond b 1 0) (and_right (f x) _ (decision_test_is_false (in_list xs x) fresh)) in
    let on : ◌≡◌ {A = ℕ} (cond (new x) 1 0) (cond (f x) 1 0) = ap (λ b. cond b 1 0) (and_true (f x) _ ((decision_test_is_exact (in_list (x ∷ xs) x)).1 head)) in
    omega (arith, change, off, on, rest, sum_by-cons (λ q. cond (f q) 1 0) x xs)
  where
    -- another number that the longer list has, the shorter one has
    earlier : (k : ℕ) → k ≢ x → Contains (x ∷ xs) k → Contains xs k
    earlier k apart (zero, in', is) = absurd (apart (sym is))
    earlier k apart (suc i, in', is) = (i, omega arith, is)

-- and one more at the head
pub once_first : (y : ℕ) (xs : List ℕ) → IsEachOnce xs → (Contains xs y → ⊥) → IsEachOnce (y ∷ xs)
once_first y xs d fresh zero zero before in' = absurd (omega arith)
once_first y xs d fresh zero (suc j) before in' = λ e. fresh (subst (Contains xs) (sym e) (Contains-get_or xs j 0 (omega arith)))
once_first y xs d fresh (suc i) zero before in' = absurd (omega arith)
once_first y xs d fresh (suc i) (suc j) before in' = d i j (omega arith) (omega arith)
