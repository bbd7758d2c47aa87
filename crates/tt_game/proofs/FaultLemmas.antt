-- What is at fault where something is refused: the first bad value, the least point.
use Rattle.std.proofs.Common.{◌≡◌, ◌≢◌, ℕ, zero, suc, ◌+◌, ◌<◌, ◌≤◌, Bool, true, false, not, ◌&&◌, ◌||◌, cond, List, [], ◌∷◌, Option, Some, None, MatchOption, refl, sym, ap, ◌∙◌, inl, inr, arith}
use Rattle.std.specs.List.{find, list_all, list_any, range_with_len}
use Rattle.std.specs.FinSet as set
use Rattle.std.specs.Cmp.{unsigned_tied}
use Rattle.std.specs.Ordering.{nat_cmp, eq_by_cmp}
use Rattle.std.proofs.lemmas.Bool.{cases_Bool, cases_eq, cases_lt, eq-eqb, false≢true, or_cases}
use Rattle.std.proofs.lemmas.Option.{none-some}
use Rattle.tt_sgf.specs.declared.size.Size.{Size}
use Rattle.tt_sgf.specs.declared.size.TheConstants.{MOST_POINTS}
use Rattle.tt_sgf.specs.declared.nodes.Property.{Property}
use Rattle.tt_sgf.specs.PointLists.{covers, is_entry, set_of}
use Rattle.tt_sgf.specs.Points.{passing}
use Rattle.tt_sgf.specs.Sizes.{point_count}
use Rattle.tt_board.specs.Position.{Colouring}
use Rattle.tt_board.specs.Reach.{entry_at, Reaches}
use Rattle.tt_board.specs.Decided.{reaches, reaches_is_exact}
use Rattle.tt_board.specs.Play.{is_empty}
use Rattle.tt_board.specs.Setup.{AllHaveLiberties, IsLeastWithoutLiberty}
use Rattle.tt_board.specs.Stones.{PointNumberSet, any_empty}
use Rattle.tt_game.specs.declared.faults.GameFault.TheVariants.{BadValue}
use Rattle.tt_game.specs.Faults.{bad_entry, bad_first_value, first_bad_entry, has_bad_entry, has_value_named, least_below, least_point, least_with_entry, least_without_liberty}

-- ---- values that can't be read

-- one value has a set where it is an entry
one_set : (size : Size) (v : List ℕ) → set_of size (v ∷ []) ≡ cond (is_entry size v && true) (Some (passing (λ q. covers size v q || false) MOST_POINTS)) None
unfolding set_of
one_set size v = refl

no_entry : (b : Bool) (s : PointNumberSet) → cond (b && true) (Some s) None ≡ None → b ≡ false
no_entry true s h = absurd (none-some s (sym h))
no_entry false s h = refl

an_entry : (b : Bool) (s t : PointNumberSet) → cond (b && true) (Some s) None ≡ Some t → b ≡ true
an_entry true s t h = refl
an_entry false s t h = absurd (none-some t h)

pub no_bad_entry : (size : Size) → first_bad_entry size [] ≡ 0
unfolding first_bad_entry
no_bad_entry size = refl

pub bad_entry_here : (size : Size) (v : List ℕ) (vs : List (List ℕ)) → set_of size (v ∷ []) ≡ None → first_bad_entry size (v ∷ vs) ≡ 0
unfolding first_bad_entry
bad_entry_here size v vs h = rw (no_entry (is_entry size v) _ (sym (one_set size v) ∙ h)) refl

pub bad_entry_behind : (size : Size) (v : List ℕ) (vs : List (List ℕ)) (s : PointNumberSet) → set_of size (v ∷ []) ≡ Some s → first_bad_entry size (v ∷ vs) ≡ suc (first_bad_entry size vs)
unfolding first_bad_entry
bad_entry_behind size v vs s h = rw (an_entry (is_entry size v) _ s (sym (one_set size v) ∙ h)) refl

-- values are read exactly where they have a set
pub all_read : (size : Size) (vs : List (List ℕ)) (s : PointNumberSet) → set_of size vs ≡ Some s → list_all (is_entry size) vs ≡ true
unfolding set_of
all_read size vs s h = elim (cases_Bool (list_all (is_entry size) vs)) [
  | inl on ↦ on
  | inr off ↦ absurd (none-some s (sym (ap (λ b. cond b (Some (passing (λ q. list_any (λ v. covers size v q) vs) MOST_POINTS)) None) off) ∙ h))
]

pub some_unread : (size : Size) (vs : List (List ℕ)) → set_of size vs ≡ None → list_all (is_entry size) vs ≡ false
unfolding set_of
some_unread size vs h = elim (cases_Bool (list_all (is_entry size) vs)) [
  | inl on ↦ absurd (none-some _ (sym h ∙ ap (λ b. cond b (Some (passing (λ q. list_any (λ v. covers size v q) vs) MOST_POINTS)) None) on))
  | inr off ↦ off
]

-- on the way to the first property with such a value
module _ (k : ℕ) (size : Size) (name : List ℕ) (i : ℕ) where
  pub bad_nowhere : bad_entry k size name i [] ≡ BadValue k i 0
  unfolding bad_entry
  bad_nowhere = refl

  pub bad_here : (p : Property) (ps : List Property) → has_bad_entry size name p ≡ true → bad_entry k size name i (p ∷ ps) ≡ BadValue k i (first_bad_entry size p.values)
  unfolding bad_entry
  bad_here p ps h = rw h refl

  pub bad_behind : (p : Property) (ps : List Property) → has_bad_entry size name p ≡ false → bad_entry k size name i (p ∷ ps) ≡ bad_entry k size name (i + 1) ps
  unfolding bad_entry
  bad_behind p ps h = rw h refl

module _ (k : ℕ) (name : List ℕ) (i : ℕ) where
  pub first_nowhere : bad_first_value k name i [] ≡ BadValue k i 0
  unfolding bad_first_value
  first_nowhere = refl

  pub first_here : (p : Property) (ps : List Property) → has_value_named name p ≡ true → bad_first_value k name i (p ∷ ps) ≡ BadValue k i 0
  unfolding bad_first_value
  first_here p ps h = rw h refl

  pub first_behind : (p : Property) (ps : List Property) → has_value_named name p ≡ false → bad_first_value k name i (p ∷ ps) ≡ bad_first_value k name (i + 1) ps
  unfolding bad_first_value
  first_behind p ps h = rw h refl

-- ---- the least number that passes a test

module _ (test : ℕ → Bool) where
  found : (a n p : ℕ) → a ≤ p → p < a + n → test p ≡ true → ((q : ℕ) → a ≤ q → q < p → test q ≡ false) → find test (range_with_len a n) ≡ Some p
  found a zero p from below on before = absurd (omega arith)
  found a (suc n) p from below on before = elim (cases_eq a p) [
    | inl here ↦ rw (ap test here ∙ on) (ap (λ q. Some q) here)
    | inr later ↦ rw (before a (omega arith) (omega arith)) (found (a + 1) n p (omega arith) (omega arith) on (λ q after. before q (omega (arith, after))))
  ]

  missing : (a n : ℕ) → ((q : ℕ) → a ≤ q → q < a + n → test q ≡ false) → find test (range_with_len a n) ≡ None
  missing a zero none = refl
  missing a (suc n) none = rw (none a (omega arith) (omega arith)) (missing (a + 1) n (λ q from below. none q (omega (arith, from)) (omega (arith, below))))

  missed : (a n q : ℕ) → find test (range_with_len a n) ≡ None → a ≤ q → q < a + n → test q ≡ false
  missed a zero q h from below = absurd (omega arith)
  missed a (suc n) q h from below = elim (cases_Bool (test a)) [
    | inl on ↦ absurd (none-some a (sym h ∙ ap (λ b. cond b (Some a) (find test (range_with_len (a + 1) n))) on))
    | inr off ↦ elim (cases_eq a q) [
      | inl here ↦ ap test (sym here) ∙ off
      | inr later ↦ missed (a + 1) n q (sym (ap (λ b. cond b (Some a) (find test (range_with_len (a + 1) n))) off) ∙ h) (omega arith) (omega arith)
    ]
  ]

  pub least_is : (n p : ℕ) → p < n → test p ≡ true → ((q : ℕ) → q < p → test q ≡ false) → least_below n test ≡ Some p
  unfolding least_below
  least_is n p below on before = found 0 n p (omega arith) (omega arith) on (λ q _. before q)

  pub least_missing : (n : ℕ) → ((q : ℕ) → test q ≡ false) → least_below n test ≡ None
  unfolding least_below
  least_missing n none = missing 0 n (λ q _ _. none q)

  pub none_below : (n q : ℕ) → least_below n test ≡ None → q < n → test q ≡ false
  unfolding least_below
  none_below n q h below = missed 0 n q h (omega arith) (omega arith)

  found_in : (a n p : ℕ) → find test (range_with_len a n) ≡ Some p → (p < a + n) × (test p ≡ true)
  found_in a zero p h = absurd (none-some p h)
  found_in a (suc n) p h = elim (cases_Bool (test a)) [
    | inl on ↦
        let is : Some a ≡ Some p = sym (ap (λ b. cond b (Some a) (find test (range_with_len (a + 1) n))) on) ∙ h in
        let same : a ≡ p = cc in
        (omega (arith, same), ap test (sym same) ∙ on)
    | inr off ↦
        let later = found_in (a + 1) n p (sym (ap (λ b. cond b (Some a) (find test (range_with_len (a + 1) n))) off) ∙ h) in
        (omega (arith, later.0), later.1)
  ]

  pub least_in : (n p : ℕ) → least_below n test ≡ Some p → (p < n) × (test p ≡ true)
  unfolding least_below
  least_in n p h = let is = found_in 0 n p h in (omega (arith, is.0), is.1)

-- ---- stones without liberties

-- a point whose stone, if any, reaches empty passes the test
alive_at : (size : Size) (c : Colouring) (p : ℕ) → p < point_count size → (entry_at c p ≢ None → Reaches size c p None) → (is_empty (entry_at c p) || reaches size c p None) ≡ true
alive_at size c p lt h = elim (entry_at c p) as (λ o. entry_at c p ≡ o → (is_empty o || reaches size c p None) ≡ true) [
  | None ↦ λ e. refl
  | Some k ↦ λ e. (reaches_is_exact size c p None lt).1 (h (λ n. none-some k (sym n ∙ e)))
] refl

-- a stone that doesn't reach empty fails the test
dead_at : (size : Size) (c : Colouring) (p : ℕ) → p < point_count size → entry_at c p ≢ None → (Reaches size c p None → ⊥) → (is_empty (entry_at c p) || reaches size c p None) ≡ false
dead_at size c p lt some dead = elim (entry_at c p) as (λ o. entry_at c p ≡ o → (is_empty o || reaches size c p None) ≡ false) [
  | None ↦ λ e. absurd (some e)
  | Some k ↦ λ e. elim (cases_Bool (reaches size c p None)) [ inl y ↦ absurd (dead ((reaches_is_exact size c p None lt).0 y)) | inr n ↦ n ]
] refl

module _ (size : Size) (c : Colouring) where
  pub all_alive : AllHaveLiberties size c → least_without_liberty size c ≡ None
  unfolding least_below
  all_alive h = missing (λ p. not (is_empty (entry_at c p) || reaches size c p None)) 0 (point_count size) (λ q _ below. ap not (alive_at size c q (omega (arith, below)) (h q (omega (arith, below)))))

  pub least_lifeless : (p : ℕ) → IsLeastWithoutLiberty size c p → least_without_liberty size c ≡ Some p
  least_lifeless p h =
      least_is (λ p. not (is_empty (entry_at c p) || reaches size c p None)) (point_count size) p h.on_board (ap not (dead_at size c p h.on_board h.stone h.lifeless))
      (λ q before. ap not (alive_at size c q (let on = h.on_board in omega (arith, on, before)) (h.least q before)))

  pub least_lifeless_on_board : (p : ℕ) → least_without_liberty size c ≡ Some p → p < point_count size
  least_lifeless_on_board p h = (least_in (λ p. not (is_empty (entry_at c p) || reaches size c p None)) (point_count size) p h).0

-- ---- sets

-- a list of which some number passes
some_passes : (test : ℕ → Bool) (xs : List ℕ) → list_any test xs ≡ true → (p : ℕ) × (list_any (eq_by_cmp nat_cmp p) xs ≡ true) × (test p ≡ true)
some_passes test [] h = absurd (false≢true h)
some_passes test (x ∷ xs) h = elim (or_cases (test x) (list_any test xs) h) [
  | inl here ↦ (x, ap (λ b. b || list_any (eq_by_cmp nat_cmp x) xs) (unsigned_tied x x ∙ eq-eqb x x refl), here)
  | inr there ↦ let r = some_passes test xs there in (r.0, ap (λ b. eq_by_cmp nat_cmp r.0 x || b) r.1 ∙ or_true (eq_by_cmp nat_cmp r.0 x), r.2)
]
  where
    or_true : (b : Bool) → (b || true) ≡ true
    or_true true = refl
    or_true false = refl

-- where no point of a set on a board is found to be empty, none is
pub none_empty : (size : Size) (s : PointNumberSet) (c : Colouring) → point_count size ≤ MOST_POINTS → ((q : ℕ) → set.contains s q ≡ true → q < point_count size)
    → least_with_entry s c None ≡ None → any_empty s c ≡ false
unfolding any_empty
none_empty size s c most on_board h = elim (cases_Bool (list_any (λ p. is_empty (entry_at c p)) (set.items s))) [
  | inr none ↦ none
  | inl some ↦
      let p = some_passes (λ q. is_empty (entry_at c q)) (set.items s) some in
      let has : set.contains s p.0 ≡ true = set.contains-items s p.0 ∙ p.1 in
      let below = on_board p.0 has in
      let off = none_below (λ q. set.contains s q && is_empty (entry_at c q)) MOST_POINTS p.0 h (omega (arith, below, most)) in
      absurd (false≢true (sym off ∙ ap (λ b. b && is_empty (entry_at c p.0)) has ∙ p.2))
]

-- the least point of a set is in it
pub least_point_in : (s : PointNumberSet) (p : ℕ) → least_point s ≡ Some p → set.contains s p ≡ true
least_point_in s p h = (least_in (λ p. set.contains s p) MOST_POINTS p h).1

-- the least point of a set, or none
no_least_point : (s : PointNumberSet) → s ≡ set.empty → least_point s ≡ None
no_least_point s h = least_missing (λ p. set.contains s p) MOST_POINTS (λ q. ap (λ (t : PointNumberSet). set.contains t q) h ∙ set.contains-empty nat_cmp q)

least_is_point : (s : PointNumberSet) (p : ℕ) → p < MOST_POINTS → set.contains s p ≡ true → ((q : ℕ) → set.contains s q ≡ true → p ≤ q) → least_point s ≡ Some p
least_is_point s p below here least = least_is (λ q. set.contains s q) MOST_POINTS p below here (λ q before. elim (cases_Bool (set.contains s q)) [
  | inl on ↦ let le = least q on in absurd (omega (arith, le, before))
  | inr off ↦ off
])

pub least_point_is : (s : PointNumberSet) (found : Option ℕ)
    → MatchOption found (s ≡ set.empty) (λ p. (set.contains s p ≡ true) × ((q : ℕ) → set.contains s q ≡ true → p ≤ q) × (p < MOST_POINTS)) → found ≡ least_point s
least_point_is s None h = sym (no_least_point s h)
least_point_is s (Some p) h = sym (least_is_point s p h.2 h.0 h.1)

-- on the way to the least point of a set that passes a test: the points before a number are known to fail it
module _ (s : PointNumberSet) (test : ℕ → Bool) (from : ℕ) (before : (q : ℕ) → q < from → (set.contains s q && test q) ≡ false) where
  -- up to the next point
  up_to : (p : ℕ) → ((q : ℕ) → from ≤ q → q < p → set.contains s q ≡ false) → (q : ℕ) → q < p → (set.contains s q && test q) ≡ false
  up_to p gap q lt = elim (cases_lt q from) [ inl known ↦ before q known | inr on ↦ ap (λ b. b && test q) (gap q on lt) ]

  pub passes_here : (p : ℕ) → p < MOST_POINTS → set.contains s p ≡ true → ((q : ℕ) → from ≤ q → q < p → set.contains s q ≡ false) → test p ≡ true
      → Some p ≡ least_below MOST_POINTS (λ q. set.contains s q && test q)
  passes_here p below here gap on = sym (least_is (λ q. set.contains s q && test q) MOST_POINTS p below (ap (λ b. b && test p) here ∙ on) (up_to p gap))

  pub fails_here : (p : ℕ) → set.contains s p ≡ true → ((q : ℕ) → from ≤ q → q < p → set.contains s q ≡ false) → test p ≡ false
      → (q : ℕ) → q < p + 1 → (set.contains s q && test q) ≡ false
  fails_here p here gap off q lt = elim (cases_eq q p) [
    | inl same ↦ ap (λ x. set.contains s x && test x) same ∙ ap (λ b. b && test p) here ∙ off
    | inr apart ↦ up_to p gap q (omega (arith, lt, apart))
  ]

  pub none_behind : ((q : ℕ) → from ≤ q → set.contains s q ≡ false) → None ≡ least_below MOST_POINTS (λ q. set.contains s q && test q)
  none_behind gap = sym (least_missing (λ q. set.contains s q && test q) MOST_POINTS (λ q. elim (cases_lt q from) [ inl known ↦ before q known | inr on ↦ ap (λ b. b && test q) (gap q on) ]))
