-- What `retain` leaves of a list of boards.
use Rattle.std.proofs.Common.{◌≡◌, ◌≤◌, ◌⊎◌, zero, suc, inl, inr, arith, List, [], ◌∷◌, Bool, true, false, length, All, Contains, refl, sym, subst}
use Rattle.std.proofs.lemmas.List.Elements.{All-nil, All-cons, All-head, All-tail}
use Rattle.std.specs.List.{items_where_true}
use Rattle.std.specs.List.Retain.{ReturnsInTurn, IsFiltered}
use Rattle.tt_board.specs.Position.{Position}
use Rattle.tt_game.specs.laws.Members.{IsIn, in_of_contains, contains_of_in}
use Rattle.tt_proof.specs.inside.RisingHashes.{hash_of_board, DoHashesRise}

-- the closure's `true` gives P of a board, and its `false` gives Q
module _ {F : Type 0} (R : F → Position → Bool → F → Type 0) (P Q : Position → Type 0) (f : F)
    (h : (x : Position) (b : Bool) (f' : F) → R f x b f' → (b ≡ true → P x) × (b ≡ false → Q x) × (f' ≡ f)) where
  kept_in : (bs : List Bool) (xs : List Position) (q : F) → ReturnsInTurn R f bs xs q → (z : Position) → IsIn (items_where_true bs xs) z → IsIn xs z × P z
  kept_in [] xs q t z m = absurd m
  kept_in (b ∷ bs) [] q t z m = absurd t
  kept_in (true ∷ bs) (x ∷ xs) q t z (inl e) = (inl e, subst P e ((h x true t.0 t.1).0 refl))
  kept_in (true ∷ bs) (x ∷ xs) q t z (inr m) = let w = kept_in bs xs q (subst (λ (y : F). ReturnsInTurn R y bs xs q) (h x true t.0 t.1).2 t.2) z m in (inr w.0, w.1)
  kept_in (false ∷ bs) (x ∷ xs) q t z m = let w = kept_in bs xs q (subst (λ (y : F). ReturnsInTurn R y bs xs q) (h x false t.0 t.1).2 t.2) z m in (inr w.0, w.1)

  later : {A B C : Type 0} → (B → C) → A ⊎ B → A ⊎ C
  later g (inl a) = inl a
  later g (inr b) = inr (g b)

  left_in : (bs : List Bool) (xs : List Position) (q : F) → length bs ≡ length xs → ReturnsInTurn R f bs xs q → (z : Position) → IsIn xs z → Q z ⊎ IsIn (items_where_true bs xs) z
  left_in bs [] q e t z m = absurd m
  left_in [] (x ∷ xs) q e t z m = absurd (omega (arith, e))
  left_in (true ∷ bs) (x ∷ xs) q e t z (inl i) = inr (inl i)
  left_in (true ∷ bs) (x ∷ xs) q e t z (inr m) =
      later (λ k. inr k) (left_in bs xs q (omega (arith, e)) (subst (λ (y : F). ReturnsInTurn R y bs xs q) (h x true t.0 t.1).2 t.2) z m)
  left_in (false ∷ bs) (x ∷ xs) q e t z (inl i) = inl (subst Q i ((h x false t.0 t.1).1 refl))
  left_in (false ∷ bs) (x ∷ xs) q e t z (inr m) = left_in bs xs q (omega (arith, e)) (subst (λ (y : F). ReturnsInTurn R y bs xs q) (h x false t.0 t.1).2 t.2) z m

  module _ (xs ys : List Position) (k : IsFiltered R f xs ys) (z : Position) where
    pub kept : Contains ys z → Contains xs z × P z
    kept m =
        let w = kept_in k.0 xs k.1 k.3 z (in_of_contains (items_where_true k.0 xs) z (subst (λ l. Contains l z) k.4 m)) in
        (contains_of_in xs z w.0, w.1)

    pub left_out_or_kept : Contains xs z → Q z ⊎ Contains ys z
    left_out_or_kept m =
        later (λ w. subst (λ l. Contains l z) (sym k.4) (contains_of_in (items_where_true k.0 xs) z w)) (left_in k.0 xs k.1 k.2 k.3 z (in_of_contains xs z m))

all_kept : (P : Position → Type 0) (bs : List Bool) (xs : List Position) → All P xs → All P (items_where_true bs xs)
all_kept P [] xs h = All-nil P
all_kept P (b ∷ bs) [] h = All-nil P
all_kept P (true ∷ bs) (x ∷ xs) h = All-cons P x (items_where_true bs xs) (All-head P x xs h) (all_kept P bs xs (All-tail P x xs h))
all_kept P (false ∷ bs) (x ∷ xs) h = all_kept P bs xs (All-tail P x xs h)

none_rise : DoHashesRise []
none_rise i j d le lt = absurd (omega (arith, lt))

rise_cons : (x : Position) (xs : List Position) → All (λ y. hash_of_board x ≤ hash_of_board y) xs → DoHashesRise xs → DoHashesRise (x ∷ xs)
rise_cons x xs head tail zero zero d le lt = omega arith
rise_cons x xs head tail zero (suc j) d le lt = head j d (omega (arith, lt))
rise_cons x xs head tail (suc i) zero d le lt = absurd (omega (arith, le))
rise_cons x xs head tail (suc i) (suc j) d le lt = tail i j d (omega (arith, le)) (omega (arith, lt))

-- lists in order stay so
rise_where : (bs : List Bool) (xs : List Position) → DoHashesRise xs → DoHashesRise (items_where_true bs xs)
rise_where [] xs h = none_rise
rise_where (b ∷ bs) [] h = none_rise
rise_where (true ∷ bs) (x ∷ xs) h =
    rise_cons x (items_where_true bs xs) (all_kept (λ y. hash_of_board x ≤ hash_of_board y) bs xs (λ k d lt. h zero (suc k) d (omega arith) (omega (arith, lt))))
    (rise_where bs xs (λ i j d le lt. h (suc i) (suc j) d (omega (arith, le)) (omega (arith, lt))))
rise_where (false ∷ bs) (x ∷ xs) h = rise_where bs xs (λ i j d le lt. h (suc i) (suc j) d (omega (arith, le)) (omega (arith, lt)))

pub kept_rise : {F : Type 0} (R : F → Position → Bool → F → Type 0) (f : F) (xs ys : List Position) → IsFiltered R f xs ys → DoHashesRise xs → DoHashesRise ys
kept_rise R f xs ys k h = subst DoHashesRise (sym k.4) (rise_where k.0 xs h)
