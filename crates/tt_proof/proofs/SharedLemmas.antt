-- Lists of boards: places, and lists that are joined.
use Rattle.std.proofs.Common.{◌≡◌, ◌↔◌, ◌<◌, ◌+◌, ◌⊎◌, ℕ, zero, suc, inl, inr, arith, List, [], ◌∷◌, ◌++◌, length, get_or}
use Rattle.std.proofs.Common.{insert, Contains, refl, sym, ap, subst, ◌∙◌}
use Rattle.std.proofs.lemmas.Bool.{cases_lt}
use Rattle.std.proofs.lemmas.List.Sorted.{IsPermutation-insert, IsPermutation-sym, Contains-permutation}
use Rattle.std.specs.List.Sorted.{IsPermutation}
use Rattle.std.proofs.lemmas.List.Elements.{Contains-append_left, Contains-append_right, Contains-append_cases}
use Rattle.tt_board.specs.Position.{Position}
use Rattle.tt_game.specs.laws.Members.{IsIn, in_of_contains, contains_of_in}

-- at an index of the list whatever else is asked for makes no difference
any_other : (vs : List Position) (n : ℕ) (d h : Position) → n < length vs → get_or vs n d ≡ get_or vs n h
any_other [] n d h lt = absurd (omega (arith, lt))
any_other (v ∷ vs) zero d h lt = refl
any_other (v ∷ vs) (suc n) d h lt = any_other vs n d h (omega (arith, lt))

-- what is held at an index of the list stands there
pub shown_at : (hs vs : List Position) (n : ℕ) (h : Position) → hs ≡ vs → n < length hs → h ≡ get_or hs n h → (d : Position) → get_or vs n d ≡ h
shown_at hs vs n h shows lt is d = subst (λ xs. get_or xs n d ≡ h) shows (any_other hs n d h lt ∙ sym is)

-- what holds at each index below a number and at that one
pub one_more_place : (vs : List Position) (P : Position → Type 0) (n : ℕ) (x : Position) → ((k : ℕ) (d : Position) → k < n → P (get_or vs k d)) →
    ((d : Position) → get_or vs n d ≡ x) → P x → (k : ℕ) (d : Position) → k < n + 1 → P (get_or vs k d)
one_more_place vs P n x before here p k d lt = elim (cases_lt k n) [
  | inl below ↦ before k d below
  | inr above ↦ let e : k ≡ n = omega (arith, lt, above) in subst P (sym (ap (λ i. get_or vs i d) e ∙ here d)) p
]

-- what stands at an index is in the list
pub stands_in : (vs : List Position) (n : ℕ) (x : Position) → n < length vs → ((d : Position) → get_or vs n d ≡ x) → Contains vs x
stands_in vs n x lt here = (n, lt, here x)

-- the same boards in another order
pub reordered : (hs ks : List Position) → IsPermutation hs ks → (b : Position) → Contains ks b ↔ Contains hs b
reordered hs ks p b = (Contains-permutation ks hs b (IsPermutation-sym hs ks p), Contains-permutation hs ks b p)

pub other_way : {A B : Type 0} → A ⊎ B → B ⊎ A
other_way (inl a) = inr a
other_way (inr b) = inl b

-- two lists in the other order
pub other_order : (A B C : Type 0) → (C ↔ (A ⊎ B)) → C ↔ (B ⊎ A)
other_order A B C h = (λ c. other_way (h.0 c), λ w. h.1 (other_way w))

-- one more is in the list
one_first : (vs : List Position) (x b : Position) → Contains (x ∷ vs) b ↔ (Contains vs b ⊎ (b ≡ x))
one_first vs x b = (λ m. to (in_of_contains (x ∷ vs) b m), back)
  where
    to : IsIn (x ∷ vs) b → Contains vs b ⊎ (b ≡ x)
    to (inl e) = inr (sym e)
    to (inr m) = inl (contains_of_in vs b m)

    back : Contains vs b ⊎ (b ≡ x) → Contains (x ∷ vs) b
    back (inl m) = contains_of_in (x ∷ vs) b (inr (in_of_contains vs b m))
    back (inr e) = contains_of_in (x ∷ vs) b (inl (sym e))

pub both : {A B C : Type 0} → (A ↔ B) → (B ↔ C) → A ↔ C
both h k = (λ a. k.0 (h.0 a), λ c. h.1 (k.1 c))

-- so it is at an index
pub inserted : (vs : List Position) (k : ℕ) (x b : Position) → Contains (insert vs k x) b ↔ (Contains vs b ⊎ (b ≡ x))
inserted vs k x b = both (reordered (x ∷ vs) (insert vs k x) (IsPermutation-insert vs k x) b) (one_first vs x b)

-- one of two cases is one of the other
pub no_more : {A B : Type 0} → (B → A) → A ↔ (A ⊎ B)
no_more {A} {B} h = (λ a. inl a, back)
  where
    back : A ⊎ B → A
    back (inl a) = a
    back (inr b) = h b

-- one that is in the list already makes no difference
pub held_already : (vs : List Position) (x b : Position) → Contains vs x → Contains vs b ↔ (Contains vs b ⊎ (b ≡ x))
held_already vs x b m = no_more (λ e. subst (λ y. Contains vs y) (sym e) m)

-- nothing is in an empty list
pub none_held : (xs : List Position) (b : Position) → length xs ≡ 0 → Contains xs b → ⊥
none_held xs b none m = let lt = m.1 in absurd (omega (arith, lt, none))

-- where one of two lists is empty, the other one holds all
pub right_empty : (l r : List Position) → length r ≡ 0 → (b : Position) → Contains l b ↔ (Contains l b ⊎ Contains r b)
right_empty l r none b = no_more (λ m. absurd (none_held r b none m))

-- what holds the boards of two lists holds those of both, whichever is which
pub either_way : (now more fewer old others : List Position) → ((more ≡ others) × (fewer ≡ old)) ⊎ ((more ≡ old) × (fewer ≡ others)) →
    ((b : Position) → Contains now b ↔ (Contains more b ⊎ Contains fewer b)) → (b : Position) → Contains now b ↔ (Contains old b ⊎ Contains others b)
either_way now more fewer old others (inl w) h b =
    other_order _ _ _ (subst (λ xs. Contains now b ↔ (Contains xs b ⊎ Contains old b)) w.0 (subst (λ xs. Contains now b ↔ (Contains more b ⊎ Contains xs b)) w.1 (h b)))
either_way now more fewer old others (inr w) h b =
    subst (λ xs. Contains now b ↔ (Contains xs b ⊎ Contains others b)) w.0 (subst (λ xs. Contains now b ↔ (Contains more b ⊎ Contains xs b)) w.1 (h b))

-- the boards of a list and of another one, of which the rest has those that the first one hasn't
pub with_rest : {All Mine Others Rest : Type 0} → (All ↔ (Mine ⊎ Rest)) → (Rest → Others) → (Others → Mine ⊎ Rest) → All ↔ (Mine ⊎ Others)
with_rest {All} {Mine} {Others} {Rest} all of left = (λ a. to (all.0 a), back)
  where
    to : Mine ⊎ Rest → Mine ⊎ Others
    to (inl m) = inl m
    to (inr r) = inr (of r)

    back : Mine ⊎ Others → All
    back (inl m) = all.1 (inl m)
    back (inr o) = all.1 (left o)

-- two lists in one
pub in_two : (xs ys : List Position) (b : Position) → Contains (xs ++ ys) b ↔ (Contains xs b ⊎ Contains ys b)
in_two xs ys b = (Contains-append_cases xs ys b, back)
  where
    back : Contains xs b ⊎ Contains ys b → Contains (xs ++ ys) b
    back (inl m) = Contains-append_left xs ys b m
    back (inr m) = Contains-append_right xs ys b m

-- and in another order
pub together : (xs ys all : List Position) → IsPermutation (xs ++ ys) all → (b : Position) → Contains all b ↔ (Contains xs b ⊎ Contains ys b)
together xs ys all p b = both (reordered (xs ++ ys) all p b) (in_two xs ys b)

-- each of two cases is said otherwise
pub sum_of : {A B C D : Type 0} → (A ↔ B) → (C ↔ D) → (A ⊎ C) ↔ (B ⊎ D)
sum_of {A} {B} {C} {D} h k = (to, back)
  where
    to : A ⊎ C → B ⊎ D
    to (inl a) = inl (h.0 a)
    to (inr c) = inr (k.0 c)

    back : B ⊎ D → A ⊎ C
    back (inl b) = inl (h.1 b)
    back (inr d) = inr (k.1 d)

-- ---- a set of three lists: the added ones, a middle and a base

pub in_three : (a m z all : List Position) → a ++ (m ++ z) ≡ all → (b : Position) → Contains all b ↔ (Contains a b ⊎ (Contains m b ⊎ Contains z b))
in_three a m z all is b =
    subst (λ xs. Contains xs b ↔ (Contains a b ⊎ (Contains m b ⊎ Contains z b))) is (both (in_two a (m ++ z) b) (sum_of (λ w. w, λ w. w) (in_two m z b)))

pub same_as : {A B C : Type 0} → (A ↔ C) → (B ↔ C) → A ↔ B
same_as h k = (λ a. k.1 (h.0 a), λ b. h.1 (k.0 b))

-- a middle is joined to a base, and what was added to both
pub joined_in_turn : {A M Z J K : Type 0} → (J ↔ (Z ⊎ M)) → (K ↔ (J ⊎ A)) → K ↔ (A ⊎ (M ⊎ Z))
joined_in_turn {A} {M} {Z} {J} {K} j k = (λ x. to (k.0 x), back)
  where
    to : J ⊎ A → A ⊎ (M ⊎ Z)
    to (inl y) = inr (other_way (j.0 y))
    to (inr a) = inl a

    back : A ⊎ (M ⊎ Z) → K
    back (inl a) = k.1 (inr a)
    back (inr w) = k.1 (inl (j.1 (other_way w)))

-- what was added is joined to a middle, and both to a base
pub joined_to_middle : {A M Z N S : Type 0} → (N ↔ (M ⊎ A)) → (S ↔ (N ⊎ Z)) → S ↔ (A ⊎ (M ⊎ Z))
joined_to_middle {A} {M} {Z} {N} {S} n s = (λ x. to (s.0 x), back)
  where
    up : M ⊎ A → A ⊎ (M ⊎ Z)
    up (inl m) = inr (inl m)
    up (inr a) = inl a

    to : N ⊎ Z → A ⊎ (M ⊎ Z)
    to (inl y) = up (n.0 y)
    to (inr z) = inr (inr z)

    back : A ⊎ (M ⊎ Z) → S
    back (inl a) = s.1 (inl (n.1 (inr a)))
    back (inr (inl m)) = s.1 (inl (n.1 (inl m)))
    back (inr (inr z)) = s.1 (inr z)

-- more is added to the first of the three
pub added_first : {A A' R L : Type 0} → (A' ↔ (A ⊎ R)) → (A' ⊎ L) ↔ ((A ⊎ L) ⊎ R)
added_first {A} {A'} {R} {L} h = (to, back)
  where
    up : A ⊎ R → (A ⊎ L) ⊎ R
    up (inl a) = inl (inl a)
    up (inr r) = inr r

    to : A' ⊎ L → (A ⊎ L) ⊎ R
    to (inl x) = up (h.0 x)
    to (inr l) = inl (inr l)

    back : (A ⊎ L) ⊎ R → A' ⊎ L
    back (inl (inl a)) = inl (h.1 (inl a))
    back (inl (inr l)) = inr l
    back (inr r) = inl (h.1 (inr r))

-- of a list at least those that another one doesn't hold
pub outside_other : {S O R : Type 0} → (R → S) → (S → R ⊎ O) → (R ⊎ O) ↔ (S ⊎ O)
outside_other {S} {O} {R} of left = (to, back)
  where
    to : R ⊎ O → S ⊎ O
    to (inl r) = inl (of r)
    to (inr o) = inr o

    back : S ⊎ O → R ⊎ O
    back (inl s) = left s
    back (inr o) = inr o

-- three lists are joined to the first of three others, their middle and base but for what the other middle and base hold
pub joined_to_first : {A M Z A' M' Z' R T J K N : Type 0} → (J ↔ (A ⊎ A')) → (K ↔ (J ⊎ R)) → (N ↔ (K ⊎ T)) → ((R ⊎ M) ↔ (M' ⊎ M)) → ((T ⊎ Z) ↔ (Z' ⊎ Z)) →
    (N ⊎ (M ⊎ Z)) ↔ ((A ⊎ (M ⊎ Z)) ⊎ (A' ⊎ (M' ⊎ Z')))
joined_to_first {A} {M} {Z} {A'} {M'} {Z'} {R} {T} {J} {K} {N} j k n middle base = (to, back)
  where
    of_middle : M' ⊎ M → (A ⊎ (M ⊎ Z)) ⊎ (A' ⊎ (M' ⊎ Z'))
    of_middle (inl m) = inr (inr (inl m))
    of_middle (inr m) = inl (inr (inl m))

    of_base : Z' ⊎ Z → (A ⊎ (M ⊎ Z)) ⊎ (A' ⊎ (M' ⊎ Z'))
    of_base (inl z) = inr (inr (inr z))
    of_base (inr z) = inl (inr (inr z))

    first : A ⊎ A' → (A ⊎ (M ⊎ Z)) ⊎ (A' ⊎ (M' ⊎ Z'))
    first (inl a) = inl (inl a)
    first (inr a) = inr (inl a)

    second : J ⊎ R → (A ⊎ (M ⊎ Z)) ⊎ (A' ⊎ (M' ⊎ Z'))
    second (inl x) = first (j.0 x)
    second (inr r) = of_middle (middle.0 (inl r))

    third : K ⊎ T → (A ⊎ (M ⊎ Z)) ⊎ (A' ⊎ (M' ⊎ Z'))
    third (inl x) = second (k.0 x)
    third (inr t) = of_base (base.0 (inl t))

    to : N ⊎ (M ⊎ Z) → (A ⊎ (M ⊎ Z)) ⊎ (A' ⊎ (M' ⊎ Z'))
    to (inl x) = third (n.0 x)
    to (inr w) = inl (inr w)

    from_first : A ⊎ A' → N ⊎ (M ⊎ Z)
    from_first w = inl (n.1 (inl (k.1 (inl (j.1 w)))))

    from_middle : R ⊎ M → N ⊎ (M ⊎ Z)
    from_middle (inl r) = inl (n.1 (inl (k.1 (inr r))))
    from_middle (inr m) = inr (inl m)

    from_base : T ⊎ Z → N ⊎ (M ⊎ Z)
    from_base (inl t) = inl (n.1 (inr t))
    from_base (inr z) = inr (inr z)

    back : (A ⊎ (M ⊎ Z)) ⊎ (A' ⊎ (M' ⊎ Z')) → N ⊎ (M ⊎ Z)
    back (inl (inl a)) = from_first (inl a)
    back (inl (inr w)) = inr w
    back (inr (inl a)) = from_first (inr a)
    back (inr (inr (inl m))) = from_middle (middle.1 (inl m))
    back (inr (inr (inr z))) = from_base (base.1 (inl z))

-- one is taken out of the first of two, where the second hasn't it
pub taken_out : {A A' L Self N : Type 0} → (A' ↔ (A × N)) → (L → N) → (Self ↔ (A ⊎ L)) → (A' ⊎ L) ↔ (Self × N)
taken_out {A} {A'} {L} {Self} {N} h n self = (to, λ w. back w.1 (self.0 w.0))
  where
    to : A' ⊎ L → Self × N
    to (inl x) = let w = h.0 x in (self.1 (inl w.0), w.1)
    to (inr l) = (self.1 (inr l), n l)

    back : N → A ⊎ L → A' ⊎ L
    back k (inl a) = inl (h.1 (a, k))
    back k (inr l) = inr l

-- what holds of the boards of all three lists
pub all_of_three : (P : Position → Type 0) (a m z all : List Position) → a ++ (m ++ z) ≡ all → ((b : Position) → Contains a b → P b) → ((b : Position) → Contains m b → P b) →
    ((b : Position) → Contains z b → P b) → (b : Position) → Contains all b → P b
all_of_three P a m z all is ha hm hz b w = of ((in_three a m z all is b).0 w)
  where
    of : Contains a b ⊎ (Contains m b ⊎ Contains z b) → P b
    of (inl x) = ha b x
    of (inr (inl x)) = hm b x
    of (inr (inr x)) = hz b x
