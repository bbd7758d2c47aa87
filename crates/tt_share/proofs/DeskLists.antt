-- Sums over what the seats know, after one of them changed.
use Rattle.std.proofs.Common.{◌≡◌, ℕ, zero, suc, ◌+◌, ◌-◌, ◌<◌, ◌≤◌, List, [], ◌∷◌, ◌++◌, length, get_or, set, sum_by, count_by, cond, leb, refl, sym, ap, add-one, subst, arith, zero-le}
use Rattle.std.specs.List.Sorted.{IsStrictlyIncreasing}
use Rattle.std.proofs.lemmas.Grind.{common_steps}
use Rattle.std.proofs.lemmas.Bool.Decides.{nat_tests}
use Rattle.std.proofs.lemmas.List.Sums.{sum_by-set, sum_by-cons, get_or-le-sum_by}
use mathlib.Core.Option.{some, some-injective, some-ne-none}
use mathlib.Core.Logic.{dite}
use native.Mathlib.Decide.{ℕ_discrete}
use lib.ListN.{get_elem?}
use Rattle.std.proofs.lemmas.Map.Keys.{sorted_from_strictly_increasing, below_from_sorted}
use Rattle.tt_share.specs.Desk.{sum_below}
use Rattle.tt_share.specs.Seats.{last_number}

module _ {A : Type 0} where
  -- the slot of an element is within the list
  pub at_within : (l : List A) (i : ℕ) (a : A) → get_elem? l i ≡ some a → i < length l
  at_within [] i a e = absurd (some-ne-none a (sym e))
  at_within (x ∷ xs) zero a e = omega arith
  at_within (x ∷ xs) (suc i) a e = let h = at_within xs i a e in omega arith

  -- and the element is what is read there
  pub at_read : (l : List A) (i : ℕ) (a d : A) → get_elem? l i ≡ some a → get_or l i d ≡ a
  at_read [] i a d e = absurd (some-ne-none a (sym e))
  at_read (x ∷ xs) zero a d e = some-injective x a e
  at_read (x ∷ xs) (suc i) a d e = at_read xs i a d e

  -- the sum after a change of one element
  pub sum_set : (f : A → ℕ) (l : List A) (i : ℕ) (a b : A) → get_elem? l i ≡ some a → sum_by f (set l i b) + f a ≡ sum_by f l + f b
  sum_set f l i a b e =
      let s = sum_by-set f l i b a (at_within l i a e) in
      let r : f (get_or l i a) ≡ f a = ap f (at_read l i a a e) in omega arith

  -- an element weighs no more than the list
  pub sum_at : (f : A → ℕ) (l : List A) (i : ℕ) (a : A) → get_elem? l i ≡ some a → f a ≤ sum_by f l
  sum_at f l i a e =
      let s = get_or-le-sum_by f l i a (at_within l i a e) in
      let r : f (get_or l i a) ≡ f a = ap f (at_read l i a a e) in omega arith

  -- a sum of terms that are no larger is no larger
  pub sum_le : (f g : A → ℕ) (l : List A) → ((i : ℕ) (a : A) → get_elem? l i ≡ some a → f a ≤ g a) → sum_by f l ≤ sum_by g l
  sum_le f g [] h = zero-le
  sum_le f g (x ∷ xs) h =
      let one = h 0 x refl in
      let more = sum_le f g xs (λ i a e. h (suc i) a e) in
      omega (arith, sum_by-cons f x xs, sum_by-cons g x xs)

-- at most `jobs` of the numbers below n are below `jobs`
pub overdraw_below : (jobs n : ℕ) → n ≤ sum_below (λ k. cond (leb jobs k) 1 0) n + jobs
overdraw_below jobs zero = zero-le
overdraw_below jobs (suc n) = let h = overdraw_below jobs n in grind (arith, nat_tests)

-- no number below n is n or more
pub none_below : (n m : ℕ) → m ≤ n → sum_below (λ k. cond (leb n k) 1 0) m ≡ 0
none_below n zero h = refl
none_below n (suc m) h = let e = none_below n m (omega arith) in grind (arith, nat_tests)

-- where numbers of n or more weigh 1, and a list weighs nothing, its numbers are below n
pub below_by_weight : (xs : List ℕ) (n k : ℕ) → sum_by (λ x. cond (leb n x) 1 0) xs ≤ 0 → k < length xs → get_or xs k 0 < n
below_by_weight xs n k none h =
    let one = get_or-le-sum_by (λ x. cond (leb n x) 1 0) xs k 0 h in grind (arith, nat_tests)

-- numbers that rise do so with one more above all of them
pub rising_push : (xs : List ℕ) (n : ℕ) → IsStrictlyIncreasing xs → ((k : ℕ) → k < length xs → get_or xs k 0 < n) → IsStrictlyIncreasing (xs ++ n ∷ [])
rising_push xs n up below k h = grind (arith, common_steps, up k, below k)

-- of numbers below n, none is n or more
none_counted : (xs : List ℕ) (n : ℕ) → ((k : ℕ) → k < length xs → get_or xs k 0 < n) → count_by (λ x. leb n x) xs ≡ 0
none_counted [] n h = refl
none_counted (x ∷ xs) n h =
    let one = h 0 (omega arith) in
    let more = none_counted xs n (λ k lt. h (suc k) (omega arith)) in
    let s = sum_by-cons (λ y. cond (leb n y) 1 0) x xs in grind (arith, nat_tests)

-- where rising numbers end below n, none of them is n or more
pub no_spares : (xs : List ℕ) (n : ℕ) → IsStrictlyIncreasing xs → last_number xs < n → count_by (λ x. leb n x) xs ≡ 0
no_spares xs n up last = none_counted xs n (λ k lt.
    dite (ℕ_discrete k (length xs - 1))
    (λ e. subst (λ j. get_or xs j 0 < n) (sym e) last)
    (λ ne. let b = below_from_sorted xs k (length xs - 1) 0 (sorted_from_strictly_increasing xs up) (omega arith) (omega arith) in omega arith))

-- a rising list has at each slot no less than the slot
rising_at_least : (xs : List ℕ) (k : ℕ) → IsStrictlyIncreasing xs → k < length xs → k ≤ get_or xs k 0
rising_at_least xs zero up h = zero-le
rising_at_least xs (suc k) up h =
    let was = rising_at_least xs k up (omega arith) in
    let more = subst (λ (j : ℕ). j < length xs → get_or xs k 0 < get_or xs j 0) (add-one k) (up k) h in omega arith

-- rising numbers below n are no more than n
pub rising_short : (xs : List ℕ) (n : ℕ) → IsStrictlyIncreasing xs → ((k : ℕ) → k < length xs → get_or xs k 0 < n) → length xs ≤ n
rising_short [] n up below = zero-le
rising_short (x ∷ xs) n up below =
    let last = rising_at_least (x ∷ xs) (length xs) up (omega arith) in
    let b = below (length xs) (omega arith) in omega arith
