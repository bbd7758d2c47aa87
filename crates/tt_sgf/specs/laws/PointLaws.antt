-- Laws of the sets of points: which numbers pass. Proofs alone cite these, here and in the crates above.
use Rattle.std.proofs.Common.{◌≡◌, ℕ, zero, suc, ◌≢◌, Bool, true, false, ◌&&◌, eqb, ltb, refl, sym, ap, ◌∙◌, inl, inr, arith}
use Rattle.std.proofs.lemmas.Bool.{cases_Bool, cases_lt, cases_eq, eq-eqb, ne_eqb, lt-ltb, le-ltb}
use Rattle.std.specs.Cmp.{nat_cmp_total, unsigned_tied}
use Rattle.std.specs.Ordering.{nat_cmp, eq_by_cmp}
use Rattle.std.specs.FinSet as set
use Rattle.tt_sgf.specs.Points.{passing}

-- no number is below 0
pub passing-zero : (f : ℕ → Bool) → passing f 0 ≡ set.empty
unfolding passing
passing-zero f = refl

-- the next number is in where it passes
pub passing-in : (f : ℕ → Bool) (n : ℕ) → f n ≡ true → passing f (suc n) ≡ set.insert (passing f n) n
unfolding passing
passing-in f n e = rw e refl

-- and out where it doesn't
pub passing-out : (f : ℕ → Bool) (n : ℕ) → f n ≡ false → passing f (suc n) ≡ passing f n
unfolding passing
passing-out f n e = rw e refl

-- the order of numbers has two as one exactly where they are equal
tied : (q n : ℕ) → eq_by_cmp nat_cmp q n ≡ eqb q n
tied q n = unsigned_tied q n

-- a number other than n is below n + 1 exactly where it is below n
ltb-next : (q n : ℕ) → (q ≡ n → ⊥) → ltb q (suc n) ≡ ltb q n
ltb-next q n ne = elim (cases_lt q n) [
  | inl lt ↦ lt-ltb q (suc n) (omega arith) ∙ sym (lt-ltb q n lt)
  | inr ge ↦ let other : q ≢ n = ne in le-ltb q (suc n) (omega arith) ∙ sym (le-ltb q n ge)
]

-- a number is in the set where it is below the bound and passes
pub contains-passing : (f : ℕ → Bool) (n q : ℕ) → set.contains (passing f n) q ≡ (ltb q n && f q)
contains-passing f zero q = ap (λ s. set.contains s q) (passing-zero f) ∙ set.contains-empty nat_cmp q ∙ rw (le-ltb q 0 (omega arith)) refl
contains-passing f (suc n) q =
    elim (cases_Bool (f n)) [
      | inl b ↦ ap (λ s. set.contains s q) (passing-in f n b) ∙ set.contains-insert nat_cmp_total (passing f n) n q ∙ rw (tied q n, contains-passing f n q) (elim (cases_eq q n) [
        | inl e ↦ rw (e, eq-eqb n n refl, lt-ltb n (suc n) (omega arith), b) refl
        | inr d ↦ rw (ne_eqb q n d, ltb-next q n d) refl
      ])
      | inr b ↦ ap (λ s. set.contains s q) (passing-out f n b) ∙ contains-passing f n q ∙ elim (cases_eq q n) [
        | inl e ↦ rw (e, le-ltb n n (omega arith), lt-ltb n (suc n) (omega arith), b) refl
        | inr d ↦ rw (ltb-next q n d) refl
      ]
    ]
