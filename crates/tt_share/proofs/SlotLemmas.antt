-- One more proof in a table, and what the slot of a key says.
use Rattle.std.proofs.Math.Nat.{zero-add}
use Rattle.std.proofs.Common.{◌≡◌, ℕ, ◌+◌, ◌-◌, ◌^◌, ◌<◌, ◌≤◌, min, Bool, true, false, cond, List, [], ◌∷◌, ◌++◌, Some, slice_get, get_or, zero, suc, length}
use Rattle.std.proofs.Common.{map, refl, sym, ap, subst, ◌∙◌, arith}
use Rattle.std.proofs.lemmas.List.{map-append}
use Rattle.std.proofs.lemmas.Option.{slice_get_read, slice_get-map}
use Rattle.std.specs.Option.{option_map}
use Rattle.std.proofs.lemmas.List.Sums.{sum_by-append}
use Rattle.std.specs.HashMap.{HashMap}
use Rattle.std.specs.declared.vec.Vec.{Vec}
use Rattle.std.specs.declared.alloc.Global.{Global}
use Rattle.tt_game.specs.declared.keys.Key.{Key}
use Rattle.tt_game.specs.Keys.{key_of}
use Rattle.tt_game.specs.SameKey.{same_key}
use Rattle.tt_game.specs.laws.KeyLaws.{same_key_is_equivalence, same_key_implies_equal}
use Rattle.tt_proof.specs.ProofClaim.{ProofClaim}
use Rattle.tt_proof.specs.Nodes.{nodes}
use Rattle.tt_share.specs.inside.Slots.{slots_at, IsIndexOf}
use Rattle.tt_share.specs.Table.{slots_passing_from, slots_with_key, total_node_count}

-- one more element has its slot at the end, if it passes
pub slots-snoc : {X : Type 0} (t : X → Bool) (n : ℕ) (xs : List X) (x : X)
    → slots_passing_from t n (xs ++ x ∷ []) ≡ cond (t x) (slots_passing_from t n xs ++ (n + length xs) ∷ []) (slots_passing_from t n xs)
slots-snoc t n [] x = grind arith
slots-snoc t n (y ∷ ys) x = let e = slots-snoc t (n + 1) ys x in grind (arith, e)

snoc_at : (b : Bool) (slots : List ℕ) (m n : ℕ) → m ≡ n → cond b (slots ++ m ∷ []) slots ≡ cond b (slots ++ n ∷ []) slots
snoc_at b slots m n e = ap (λ i. cond b (slots ++ i ∷ []) slots) e

-- with one more slot at the key of one more proof, an index stays one
pub index-snoc : {S : Type 0} (old new : HashMap Key (Vec ℕ Global) S) (ps : List ProofClaim) (p : ProofClaim) (key : Key) (slot : ℕ) → slot ≡ length ps
    → key ≡ key_of p.frame p.state → IsIndexOf old ps
    → ((q : Key) → slots_at same_key new q ≡ cond (same_key key q) (slots_at same_key old q ++ slot ∷ []) (slots_at same_key old q))
    → IsIndexOf new (ps ++ p ∷ [])
index-snoc old new ps p key slot at same was step q =
    let test = λ (d : ProofClaim). same_key q (key_of d.frame d.state) in
    let e = slots-snoc test 0 ps p in
    let s : same_key key q ≡ test p = same_key_is_equivalence.symm key q ∙ ap (λ k. same_key q k) same in
    step q
    ∙ ap (λ slots. cond (same_key key q) (slots ++ slot ∷ []) slots) (was q)
    ∙ ap (λ b. cond b (slots_passing_from test 0 ps ++ slot ∷ []) (slots_passing_from test 0 ps)) s
    ∙ snoc_at (test p) (slots_passing_from test 0 ps) slot (0 + length ps) (at ∙ sym (zero-add (length ps)))
    ∙ sym e

-- with one more tree, its nodes are added, up to the greatest number of 64 bits
pub nodes-snoc : (ps : List ProofClaim) (p : ProofClaim) (total n : ℕ) → total ≡ total_node_count ps → n ≡ min (total + min (nodes p.tree) (2 ^ 64 - 1)) (2 ^ 64 - 1)
    → n ≡ total_node_count (ps ++ p ∷ [])
nodes-snoc ps p total n was is = let e = sum_by-append (λ (d : ProofClaim). nodes d.tree) ps (p ∷ []) in grind (arith, e)

-- one more element maps to one more
pub map-snoc : {A B : Type 0} (f : A → B) (xs ys zs : List A) (x : A) → ys ≡ xs → zs ≡ ys ++ x ∷ [] → map f zs ≡ map f xs ++ f x ∷ []
map-snoc f xs ys zs x e d = let a = map-append f xs (x ∷ []) in rw (d, e, a) refl

-- with the first slot in front or without it, no slot is below it
low_step : (b : Bool) (n : ℕ) (ps : List ℕ) (j : ℕ) → ((k : ℕ) → k < length ps → n + 1 ≤ get_or ps k 0) → j < length (cond b (n ∷ ps) ps) → n ≤ get_or (cond b (n ∷ ps) ps) j 0
low_step true n ps zero low h = omega arith
low_step true n ps (suc j) low h = let e = low j (omega (arith, h)) in omega (arith, e)
low_step false n ps j low h = let e = low j h in omega (arith, e)

-- no slot is below the first number
pub slot_low : {X : Type 0} (t : X → Bool) (n : ℕ) (xs : List X) (j : ℕ) → j < length (slots_passing_from t n xs) → n ≤ get_or (slots_passing_from t n xs) j 0
slot_low t n [] j h = omega (arith, h)
slot_low t n (y ∷ ys) j h = low_step (t y) n (slots_passing_from t (n + 1) ys) j (slot_low t (n + 1) ys) h

-- with the first slot in front or without it, what stands at a slot passes the test
pass_step : {X : Type 0} (t : X → Bool) (b : Bool) (n : ℕ) (x y : X) (ys : List X) (ps : List ℕ) (i j : ℕ) → t y ≡ b
    → ((k : ℕ) → k < length ps → n + 1 ≤ get_or ps k 0)
    → ((k l : ℕ) → k < length ps → get_or ps k 0 ≡ n + 1 + l → slice_get ys l ≡ Some x → t x ≡ true)
    → j < length (cond b (n ∷ ps) ps) → get_or (cond b (n ∷ ps) ps) j 0 ≡ n + i → slice_get (y ∷ ys) i ≡ Some x → t x ≡ true
pass_step t true n x y ys ps zero j e low rest h at is = let same : y ≡ x = cc is in subst (λ z. t z ≡ true) same e
pass_step t true n x y ys ps (suc i) zero e low rest h at is = absurd (omega (arith, at))
pass_step t true n x y ys ps (suc i) (suc j) e low rest h at is = rest j i (omega (arith, h)) (omega (arith, at)) is
pass_step t false n x y ys ps zero j e low rest h at is = let l = low j h in absurd (omega (arith, at, l))
pass_step t false n x y ys ps (suc i) j e low rest h at is = rest j i h (omega (arith, at)) is

-- what stands at a slot passes the test
pub slot_passes : {X : Type 0} (t : X → Bool) (n : ℕ) (xs : List X) (x : X) (j i : ℕ) → j < length (slots_passing_from t n xs) → get_or (slots_passing_from t n xs) j 0 ≡ n + i
    → slice_get xs i ≡ Some x → t x ≡ true
slot_passes t n [] x j i h at is = absurd (omega (arith, h))
slot_passes t n (y ∷ ys) x j i h at is =
    pass_step t (t y) n x y ys (slots_passing_from t (n + 1) ys) i j refl (slot_low t (n + 1) ys)
    (λ k l inside at_k is_l. slot_passes t (n + 1) ys x k l inside at_k is_l) h at is

-- a proof at a slot of the key has the key
has_key : (k : Key) (ps : List ProofClaim) (p : ProofClaim) (j : ℕ) → j < length (slots_with_key k ps) → slice_get ps (get_or (slots_with_key k ps) j 0) ≡ Some p → key_of p.frame p.state ≡ k
has_key k ps p j h is =
    let at = sym (zero-add (get_or (slots_with_key k ps) j 0)) in
    sym (same_key_implies_equal k (key_of p.frame p.state) (slot_passes (λ (d : ProofClaim). same_key k (key_of d.frame d.state)) 0 ps p j (get_or (slots_with_key k ps) j 0) h at is))

-- what stands at a slot of the key has the key
pub has_key_at : {A : Type 0} (value : A → ProofClaim) (k : Key) (xs : List A) (ps : List ProofClaim) (x : A) (slots : List ℕ) (j : ℕ) → map value xs ≡ ps
    → slots ≡ slots_with_key k ps → j < length slots
    → get_or slots j 0 < length xs → x ≡ get_or xs (get_or slots j 0) x → key_of (value x).frame (value x).state ≡ k
has_key_at value k xs ps x slots j all are h inside is =
    let at : slice_get xs (get_or slots j 0) ≡ Some x = slice_get_read xs (length xs) (get_or slots j 0) x refl inside is in
    let there : slice_get (map value xs) (get_or slots j 0) ≡ Some (value x) = slice_get-map value xs (get_or slots j 0) ∙ ap (option_map value) at in
    has_key k ps (value x) j (subst (λ l. j < length l) are h) (subst (λ l. slice_get ps (get_or l j 0) ≡ Some (value x)) are (subst (λ l. slice_get l (get_or slots j 0) ≡ Some (value x)) all there))
