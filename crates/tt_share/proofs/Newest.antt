-- The newest proof of a key for a side, found from the last slot of the key down.
use Rattle.std.proofs.Math.Nat.{zero-add}
use Rattle.std.proofs.Common.{◌≡◌, ℕ, zero, suc, ◌+◌, ◌-◌, ◌<◌, ◌≤◌, Bool, true, false, cond, List, [], ◌∷◌, ◌++◌, Option, Some, None, slice_get, get_or, length, reverse, map, inl}
use Rattle.std.proofs.Common.{inr, refl, sym, ap, subst, ◌∙◌, arith}
use Rattle.std.proofs.lemmas.List.{reverse-append, append_assoc}
use Rattle.std.proofs.lemmas.Option.{slice_get_read, slice_get-map}
use Rattle.std.proofs.lemmas.Bool.{false≢true}
use Rattle.std.specs.Option.{option_map}
use mathlib.Core.Logic.{dite}
use native.Mathlib.Decide.{dec_lt}
use Rattle.tt_game.specs.declared.frame.Side.{Side}
use Rattle.tt_game.specs.Keys.{key_of}
use Rattle.tt_game.specs.Line.{LineWithUndo}
use Rattle.tt_proof.specs.ProofClaim.{ProofClaim}
use Rattle.tt_search.specs.Stores.{HasKeyAndSide, IsNewest}
use Rattle.tt_game.specs.SameKey.{same_key}
use Rattle.tt_share.specs.Table.{slots_passing_from, slots_with_key}
use Rattle.tt_game.specs.laws.KeyLaws.{equal_implies_same_key}
use Rattle.tt_share.proofs.SlotLemmas.{slot_low}

-- ---- the newest proof, by its slot in the list

some_none : {X : Type 0} (x : X) → Some x ≡ None → ⊥
some_none x e = cc

-- no proof is for the key and the side
abbrev NoneFor : LineWithUndo → Side → List ProofClaim → Type 0
NoneFor line side ps = (i : ℕ) (p : ProofClaim) → slice_get ps i ≡ Some p → HasKeyAndSide line side p → ⊥

-- older proofs behind leave the newest one as it was
more_before : (line : LineWithUndo) (side : Side) (ps qs : List ProofClaim) (p : ProofClaim) → IsNewest line side ps (Some p) → IsNewest line side (ps ++ qs) (Some p)
more_before line side [] qs p h = absurd (some_none p h)
more_before line side (q ∷ ps) qs p (inl h) = inl h
more_before line side (q ∷ ps) qs p (inr h) = inr (h.0, more_before line side ps qs p h.1)

-- a list with one more in front, reversed, has that one at its end
turned : (p : ProofClaim) (ps qs : List ProofClaim) → reverse (p ∷ ps) ++ qs ≡ reverse ps ++ p ∷ qs
turned p ps qs = ap (λ (l : List ProofClaim). l ++ qs) (reverse-append (p ∷ []) ps) ∙ append_assoc (reverse ps) (p ∷ []) qs

-- newer proofs that are not for the key and the side leave the newest one as it was
none_after : (line : LineWithUndo) (side : Side) (ps qs : List ProofClaim) (o : Option ProofClaim) → NoneFor line side ps → IsNewest line side qs o → IsNewest line side (reverse ps ++ qs) o
none_after line side [] qs o none h = h
none_after line side (p ∷ ps) qs o none h =
    let rest = none_after line side ps (p ∷ qs) o (λ i q at is. none (suc i) q at is) (inr (λ is. none 0 p refl is, h)) in
    subst (λ l. IsNewest line side l o) (sym (turned p ps qs)) rest

-- where no proof is for them, there is no newest one
none_newest : (line : LineWithUndo) (side : Side) (ps : List ProofClaim) → NoneFor line side ps → IsNewest line side (reverse ps) None
none_newest line side [] none = refl
none_newest line side (p ∷ ps) none =
    let rest = none_after line side ps (p ∷ []) None (λ i q at is. none (suc i) q at is) (inr (λ is. none 0 p refl is, refl)) in
    subst (λ l. IsNewest line side l None) (sym (reverse-append (p ∷ []) ps)) rest

-- the last proof that is for them is the newest one
last_newest : (line : LineWithUndo) (side : Side) (ps : List ProofClaim) (i : ℕ) (p : ProofClaim) → slice_get ps i ≡ Some p → HasKeyAndSide line side p
    → ((j : ℕ) (q : ProofClaim) → i < j → slice_get ps j ≡ Some q → HasKeyAndSide line side q → ⊥) → IsNewest line side (reverse ps) (Some p)
last_newest line side [] i p at is later = absurd (some_none p (sym at))
last_newest line side (q ∷ ps) zero p at is later =
    let same : q ≡ p = cc in
    let this : IsNewest line side (q ∷ []) (Some p) = inl (subst (HasKeyAndSide line side) (sym same) is, ap Some (sym same)) in
    let rest = none_after line side ps (q ∷ []) (Some p) (λ j r there for. later (suc j) r (omega arith) there for) this in
    subst (λ l. IsNewest line side l (Some p)) (sym (reverse-append (q ∷ []) ps)) rest
last_newest line side (q ∷ ps) (suc i) p at is later =
    let front = last_newest line side ps i p at is (λ j r more there for. later (suc j) r (omega (arith, more)) there for) in
    subst (λ l. IsNewest line side l (Some p)) (sym (reverse-append (q ∷ []) ps)) (more_before line side (reverse ps) (q ∷ []) p front)

-- ---- the slots of what passes a test

-- the number stands in the list
abbrev Stands : ℕ → List ℕ → Type 0
Stands n slots = (j : ℕ) × (j < length slots) × (get_or slots j 0 ≡ n)

-- what passes the test at the first slot has its slot
here : (b : Bool) (n : ℕ) (slots : List ℕ) → b ≡ true → Stands (n + 0) (cond b (n ∷ slots) slots)
here true n slots e = (0, omega arith, omega arith)
here false n slots e = absurd (false≢true e)

-- what has its slot behind the first one has it among all
later : (b : Bool) (n i : ℕ) (slots : List ℕ) → Stands (n + 1 + i) slots → Stands (n + suc i) (cond b (n ∷ slots) slots)
later true n i slots h = (suc h.0, omega (arith, h.1), h.2 ∙ omega arith)
later false n i slots h = (h.0, h.1, h.2 ∙ omega arith)

-- what passes the test has its slot
placed : {X : Type 0} (t : X → Bool) (n : ℕ) (xs : List X) (x : X) (i : ℕ) → slice_get xs i ≡ Some x → t x ≡ true → Stands (n + i) (slots_passing_from t n xs)
placed t n [] x i at is = absurd (some_none x (sym at))
placed t n (y ∷ ys) x zero at is = let same : x ≡ y = cc in here (t y) n (slots_passing_from t (n + 1) ys) (subst (λ z. t z ≡ true) same is)
placed t n (y ∷ ys) x (suc i) at is = later (t y) n i (slots_passing_from t (n + 1) ys) (placed t (n + 1) ys x i at is)

-- slots rise with the first one in front or without it
rise_step : (b : Bool) (n : ℕ) (slots : List ℕ) (j k : ℕ) → ((l : ℕ) → l < length slots → n + 1 ≤ get_or slots l 0)
    → ((l m : ℕ) → l ≤ m → m < length slots → get_or slots l 0 ≤ get_or slots m 0)
    → j ≤ k → k < length (cond b (n ∷ slots) slots) → get_or (cond b (n ∷ slots) slots) j 0 ≤ get_or (cond b (n ∷ slots) slots) k 0
rise_step true n slots zero zero low rest le h = omega arith
rise_step true n slots zero (suc k) low rest le h = let e = low k (omega (arith, h)) in omega (arith, e)
rise_step true n slots (suc j) zero low rest le h = absurd (omega (arith, le))
rise_step true n slots (suc j) (suc k) low rest le h = rest j k (omega (arith, le)) (omega (arith, h))
rise_step false n slots j k low rest le h = rest j k le h

-- slots rise
rise : {X : Type 0} (t : X → Bool) (n : ℕ) (xs : List X) (j k : ℕ) → j ≤ k → k < length (slots_passing_from t n xs) → get_or (slots_passing_from t n xs) j 0 ≤ get_or (slots_passing_from t n xs) k 0
rise t n [] j k le h = absurd (omega (arith, h))
rise t n (y ∷ ys) j k le h = rise_step (t y) n (slots_passing_from t (n + 1) ys) j k (slot_low t (n + 1) ys) (rise t (n + 1) ys) le h

-- ---- from the last slot of the key down

-- each proof of the key for the side stands at one of the first so many slots
abbrev pub AmongFirst : LineWithUndo → Side → List ProofClaim → List ℕ → ℕ → Type 0
AmongFirst line side ps slots left = (i : ℕ) (p : ProofClaim) → slice_get ps i ≡ Some p → HasKeyAndSide line side p → (j : ℕ) × (j < left) × (get_or slots j 0 ≡ i)

-- each of them stands at one of the key's slots
pub among_all : (line : LineWithUndo) (side : Side) (ps : List ProofClaim) (slots : List ℕ) → slots ≡ slots_with_key (key_of line.frame line.state) ps → AmongFirst line side ps slots (length slots)
among_all line side ps slots are i p at is =
    let all =
    placed (λ (d : ProofClaim). same_key (key_of line.frame line.state) (key_of d.frame d.state)) 0 ps p i at
    (equal_implies_same_key (key_of line.frame line.state) (key_of p.frame p.state) (sym is.same_key)) in
    subst (λ (l : List ℕ). (j : ℕ) × (j < length l) × (get_or l j 0 ≡ i)) (sym are) (all.0, all.1, all.2 ∙ zero-add i)

-- where the value at a slot is p, what stands there has the value p
read_value : {A : Type 0} (value : A → ProofClaim) (xs : List A) (i : ℕ) (o : Option A) (p : ProofClaim) → slice_get xs i ≡ o → option_map value o ≡ Some p → (x : A)
    × (slice_get xs i ≡ Some x) × (value x ≡ p)
read_value value xs i None p e is = absurd (some_none p (sym is))
read_value value xs i (Some x) p e is = (x, e, cc is)

-- where the last of these slots has no such proof, they stand at those before it
pub among_fewer : {A : Type 0} (value : A → ProofClaim) (line : LineWithUndo) (side : Side) (xs : List A) (ps : List ProofClaim) (slots : List ℕ) (left : ℕ) → map value xs ≡ ps
    → ((x : A) → slice_get xs (get_or slots (left - 1) 0) ≡ Some x → (value x).side ≡ side → ⊥) → AmongFirst line side ps slots left → AmongFirst line side ps slots (left - 1)
among_fewer value line side xs ps slots left all other among i p at is =
    let first = among i p at is in
    dite (dec_lt first.0 (left - 1)) (λ lt. (first.0, lt, first.2))
    (λ ge. let h = first.1 in
    let last : first.0 ≡ left - 1 = omega (arith, h, ge) in
    let there : slice_get (map value xs) i ≡ Some p = subst (λ l. slice_get l i ≡ Some p) (sym all) at in
    let read = read_value value xs i (slice_get xs i) p refl (sym (slice_get-map value xs i) ∙ there) in
    let slot : i ≡ get_or slots (left - 1) 0 = sym first.2 ∙ ap (λ j. get_or slots j 0) last in
    absurd (other read.0 (subst (λ j. slice_get xs j ≡ Some read.0) slot read.1) (ap (λ (q : ProofClaim). q.side) read.2 ∙ is.for_side)))

-- what is read at a slot is for the side that what stands there is for
pub read_side : {A : Type 0} (value : A → ProofClaim) (xs : List A) (i : ℕ) (x y : A) (side : Side) → i < length xs → x ≡ get_or xs i x → slice_get xs i ≡ Some y
    → (value y).side ≡ side → (value x).side ≡ side
read_side value xs i x y side inside is at for =
    let there : slice_get xs i ≡ Some x = slice_get_read xs (length xs) i x refl inside is in
    let same : x ≡ y = cc in
    ap (λ z. (value z).side) same ∙ for

-- where none of the slots is left, there is no newest proof
pub none_is_newest : (line : LineWithUndo) (side : Side) (ps : List ProofClaim) (slots : List ℕ) (left : ℕ) → left ≡ 0 → AmongFirst line side ps slots left → IsNewest line side (reverse ps) None
none_is_newest line side ps slots left done among =
    none_newest line side ps (λ i p at is. let first = among i p at is in let h = first.1 in absurd (omega (arith, h, done)))

-- a proof for the side at the last of the slots that are left is the newest one
pub found_is_newest : {A : Type 0} (value : A → ProofClaim) (line : LineWithUndo) (side : Side) (xs : List A) (ps : List ProofClaim) (x : A) (slots : List ℕ) (left : ℕ)
    → map value xs ≡ ps → slots ≡ slots_with_key (key_of line.frame line.state) ps
    → left - 1 < length slots → get_or slots (left - 1) 0 < length xs → x ≡ get_or xs (get_or slots (left - 1) 0) x → HasKeyAndSide line side (value x) → AmongFirst line side ps slots left
    → IsNewest line side (reverse ps) (Some (value x))
found_is_newest value line side xs ps x slots left all are h inside is answers among =
    let slot = get_or slots (left - 1) 0 in
    let at : slice_get xs slot ≡ Some x = slice_get_read xs (length xs) slot x refl inside is in
    let there : slice_get ps slot ≡ Some (value x) = subst (λ l. slice_get l slot ≡ Some (value x)) all (slice_get-map value xs slot ∙ ap (option_map value) at) in
    last_newest line side ps slot (value x) there answers
    (λ j q more at_j for.
    let first = among j q at_j for in
    let lt = first.1 in
    let at_first = first.2 in
    let up = subst (λ (l : List ℕ). get_or l first.0 0 ≤ get_or l (left - 1) 0) (sym are)
    (rise (λ (d : ProofClaim). same_key (key_of line.frame line.state) (key_of d.frame d.state)) 0 ps first.0 (left - 1) (omega (arith, lt)) (subst (λ (l : List ℕ). left - 1 < length l) are h)) in
    omega (arith, more, up, at_first))
