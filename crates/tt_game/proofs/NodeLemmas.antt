-- The values of a node's properties, property by property.
use Rattle.std.proofs.Common.{◌≡◌, ℕ, Bool, true, false, ◌&&◌, ◌||◌, ◌==◌, List, [], ◌∷◌, ◌++◌, Option, Some, None, refl, sym, ap, ◌∙◌, inl, inr}
use Rattle.std.specs.List.{list_any, list_all}
use Rattle.std.specs.FinSet as set
use Rattle.std.specs.Ordering.{nat_cmp}
use Rattle.std.specs.Cmp.{nat_cmp_total}
use Rattle.std.proofs.Common.{ltb, ap₂}
use Rattle.std.proofs.lemmas.Bool.{cases_Bool}
use Rattle.std.proofs.lemmas.List.Folds.{list_all-append, list_any-append}
use lib.Pointwise.{pointwise}
use Rattle.tt_sgf.specs.declared.size.Size.{Size}
use Rattle.tt_sgf.specs.declared.nodes.Property.{Property}
use Rattle.tt_sgf.specs.PointLists.{set_of, covers, is_entry}
use Rattle.tt_sgf.specs.Points.{passing}
use Rattle.tt_sgf.specs.laws.PointLaws.{contains-passing}
use Rattle.std.proofs.lemmas.Option.{none-some}
use Rattle.tt_game.specs.Nodes.{values_of}

-- a set and one that may be missing
abbrev pub joined : set.FinSet nat_cmp → Option (set.FinSet nat_cmp) → Option (set.FinSet nat_cmp)
joined s None = None
joined s (Some t) = Some (set.union s t)

-- a property's values: none in an empty list, its own first, and none from another name
pub values-nil : (name : List ℕ) → values_of name [] ≡ []
unfolding values_of
values-nil name = refl

pub values-named : (name : List ℕ) (p : Property) (ps : List Property) → pointwise ◌==◌ p.ident name ≡ true → values_of name (p ∷ ps) ≡ p.values ++ values_of name ps
unfolding values_of
values-named name p ps e = rw e refl

pub values-other : (name : List ℕ) (p : Property) (ps : List Property) → pointwise ◌==◌ p.ident name ≡ false → values_of name (p ∷ ps) ≡ values_of name ps
unfolding values_of
values-other name p ps e = rw e refl

-- a set is known by its members
same_sets : (s t : set.FinSet nat_cmp) → ((q : ℕ) → set.contains s q ≡ set.contains t q) → s ≡ t
same_sets s t h = set.same_set nat_cmp_total set.nat_cmp-IsAntisymmetric s t h

-- what is in x, or below the bound and in a or in b, may be put in one after the other
joins : (x l a b : Bool) → (x || (l && (a || b))) ≡ ((x || (l && a)) || (l && b))
joins true l a b = refl
joins false false a b = refl
joins false true true b = refl
joins false true false b = refl

or_none : (x l : Bool) → (x || (l && false)) ≡ x
or_none true l = refl
or_none false true = refl
or_none false false = refl

-- whether some value covers the number
pub covered : Size → List (List ℕ) → ℕ → Bool
covered size vs q = list_any (λ v. covers size v q) vs

-- values that are all entries have the set of what they cover, and others have none
pub set_of-all : (size : Size) (vs : List (List ℕ)) → list_all (is_entry size) vs ≡ true → set_of size vs ≡ Some (passing (covered size vs) 361)
unfolding set_of covered
set_of-all size vs e = rw e refl

pub set_of-not : (size : Size) (vs : List (List ℕ)) → list_all (is_entry size) vs ≡ false → set_of size vs ≡ None
unfolding set_of
set_of-not size vs e = rw e refl

-- a bad entry among the first values is one among all
pub set-none : (size : Size) (vs ws : List (List ℕ)) → set_of size vs ≡ None → set_of size (vs ++ ws) ≡ None
set-none size vs ws e = elim (cases_Bool (list_all (is_entry size) vs)) [
  | inl all ↦ absurd (none-some _ (sym e ∙ set_of-all size vs all))
  | inr not_all ↦ set_of-not size (vs ++ ws) (list_all-append (is_entry size) vs ws ∙ ap (λ b. b && list_all (is_entry size) ws) not_all)
]

-- all values cover what the first ones or the others cover
covered-append : (size : Size) (vs ws : List (List ℕ)) (q : ℕ) → covered size (vs ++ ws) q ≡ (covered size vs q || covered size ws q)
unfolding covered
covered-append size vs ws q = list_any-append (λ v. covers size v q) vs ws

-- what is in a set, in that of some values and in that of others, put together one after the other
left : (size : Size) (vs ws : List (List ℕ)) (pts : set.FinSet nat_cmp) (q : ℕ)
    → set.contains (set.union (set.union pts (passing (covered size vs) 361)) (passing (covered size ws) 361)) q
    ≡ ((set.contains pts q || (ltb q 361 && covered size vs q)) || (ltb q 361 && covered size ws q))
left size vs ws pts q =
    set.contains-union nat_cmp_total (set.union pts (passing (covered size vs) 361)) (passing (covered size ws) 361) q
    ∙ ap₂ (λ x y. x || y) (set.contains-union nat_cmp_total pts (passing (covered size vs) 361) q ∙ ap (λ y. set.contains pts q || y) (contains-passing (covered size vs) 361 q))
    (contains-passing (covered size ws) 361 q)

-- and the same, put together at once
right : (size : Size) (vs ws : List (List ℕ)) (pts : set.FinSet nat_cmp) (q : ℕ)
    → set.contains (set.union pts (passing (covered size (vs ++ ws)) 361)) q ≡ (set.contains pts q || (ltb q 361 && (covered size vs q || covered size ws q)))
right size vs ws pts q =
    set.contains-union nat_cmp_total pts (passing (covered size (vs ++ ws)) 361) q
    ∙ ap (λ y. set.contains pts q || y) (contains-passing (covered size (vs ++ ws)) 361 q ∙ ap (λ y. ltb q 361 && y) (covered-append size vs ws q))

-- the points of some values put in first leave the total as it was
pub set-more : (size : Size) (vs ws : List (List ℕ)) (pts s : set.FinSet nat_cmp) → set_of size vs ≡ Some s → joined (set.union pts s) (set_of size ws) ≡ joined pts (set_of size (vs ++ ws))
set-more size vs ws pts s e = elim (cases_Bool (list_all (is_entry size) vs)) [
  | inr not_all ↦ absurd (none-some _ (sym (set_of-not size vs not_all) ∙ e))
  | inl all ↦
      let is : s ≡ passing (covered size vs) 361 = (let k : Some s ≡ Some (passing (covered size vs) 361) = sym e ∙ set_of-all size vs all in cc) in
      elim (cases_Bool (list_all (is_entry size) ws)) [
        | inr not_ws ↦ ap (joined (set.union pts s)) (set_of-not size ws not_ws)
            ∙ sym (ap (joined pts) (set_of-not size (vs ++ ws) (list_all-append (is_entry size) vs ws ∙ ap (λ b. b && list_all (is_entry size) ws) all ∙ not_ws)))
        | inl all_ws ↦
            let both : list_all (is_entry size) (vs ++ ws) ≡ true = list_all-append (is_entry size) vs ws ∙ ap (λ b. b && list_all (is_entry size) ws) all ∙ all_ws in
            ap (joined (set.union pts s)) (set_of-all size ws all_ws)
            ∙ ap (λ (x : set.FinSet nat_cmp). Some x) (ap (λ x. set.union (set.union pts x) (passing (covered size ws) 361)) is
            ∙ same_sets _ _ (λ q. left size vs ws pts q ∙ sym (joins (set.contains pts q) (ltb q 361) (covered size vs q) (covered size ws q)) ∙ sym (right size vs ws pts q)))
            ∙ sym (ap (joined pts) (set_of-all size (vs ++ ws) both))
      ]
]

-- without values nothing more is covered
nothing : (size : Size) (pts : set.FinSet nat_cmp) (q : ℕ) → (set.contains pts q || (ltb q 361 && covered size [] q)) ≡ set.contains pts q
unfolding covered
nothing size pts q = or_none (set.contains pts q) (ltb q 361)

-- without values the set stays
pub set-end : (size : Size) (pts : set.FinSet nat_cmp) → joined pts (set_of size []) ≡ Some pts
set-end size pts =
    ap (joined pts) (set_of-all size [] refl)
    ∙ ap (λ (x : set.FinSet nat_cmp). Some x) (same_sets _ _ (λ q. set.contains-union nat_cmp_total pts (passing (covered size []) 361) q
    ∙ rw (contains-passing (covered size []) 361 q) (nothing size pts q)))

-- the empty set put together with another is the other
pub set-begin : (o : Option (set.FinSet nat_cmp)) → joined set.empty o ≡ o
set-begin None = refl
set-begin (Some t) = ap (λ (x : set.FinSet nat_cmp). Some x) (same_sets _ _ (λ q. set.contains-union nat_cmp_total set.empty t q ∙ rw (set.contains-empty nat_cmp q) refl))
