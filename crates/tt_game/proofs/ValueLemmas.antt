use Rattle.std.proofs.Common.{◌≡◌, ℕ, zero, suc, ◌^◌, ◌<◌, ◌≤◌, List, [], ◌∷◌, ◌++◌, length, map, get_or, Contains, count_by, Option, Some, None, Bool, true, false, not, not, cond}
use Rattle.std.proofs.Common.{refl, sym, ap, subst, ◌∙◌, arith, length-append}
use Rattle.std.proofs.lemmas.Bool.{false≢true}
use Rattle.std.proofs.lemmas.List.{length-map, get_or-map}
use Rattle.std.proofs.lemmas.List.Elements.{Contains-append_left, Contains-append_right}
use Rattle.std.proofs.lemmas.List.Sums.{sum_by-cons, sum_by-le-sum_by}
use Rattle.std.proofs.Math.Nat.{pow-suc}
use Rattle.tt_board.specs.declared.Colour.{Colour}
use Rattle.tt_board.specs.declared.Colour.TheVariants.{Black, White}
use Rattle.tt_game.specs.Superko.{repeats, repeats_is_exact}

-- these lists, each with x at its front
pub led_by : Option Colour → List (List (Option Colour)) → List (List (Option Colour))
led_by x cs = map (λ c. x ∷ c) cs

-- every colouring of n points
pub colourings_of : ℕ → List (List (Option Colour))
colourings_of zero = [] ∷ []
colourings_of (suc n) = led_by None (colourings_of n) ++ (led_by (Some Black) (colourings_of n) ++ led_by (Some White) (colourings_of n))

-- what is in a list is, changed, in the changed list
contains_map : {A B : Type 0} (f : A → B) (xs : List A) (y : A) → Contains xs y → Contains (map f xs) (f y)
contains_map f xs y (k, in', e) = (k, subst (λ n. k < n) (sym (length-map xs f)) in', get_or-map f xs k y (f y) in' ∙ ap f e)

-- a colouring among others is, with an entry at its front, among those with it
contains_led : (x : Option Colour) (cs : List (List (Option Colour))) (c : List (Option Colour)) → Contains cs c → Contains (led_by x cs) (x ∷ c)
unfolding led_by
contains_led x cs c h = contains_map (λ d. x ∷ d) cs c h

-- an entry at the front of each keeps their number
length-led_by : (x : Option Colour) (cs : List (List (Option Colour))) → length (led_by x cs) ≡ length cs
unfolding led_by
length-led_by x cs = length-map cs (λ d. x ∷ d)

-- each colouring of n points is among those listed
pub complete : (n : ℕ) (c : List (Option Colour)) → length c ≡ n → Contains (colourings_of n) c
unfolding colourings_of
complete zero [] e = (0, omega arith, refl)
complete zero (x ∷ c) e = absurd (omega arith)
complete (suc n) [] e = absurd (omega arith)
complete (suc n) (x ∷ c) e =
    let cs = colourings_of n in
    let h = contains_led x cs c (complete n c (omega arith)) in
    pick x c cs h
  where
    pick : (x : Option Colour) (c : List (Option Colour)) (cs : List (List (Option Colour))) → Contains (led_by x cs) (x ∷ c)
        → Contains (led_by None cs ++ (led_by (Some Black) cs ++ led_by (Some White) cs)) (x ∷ c)
    pick None c cs h = Contains-append_left (led_by None cs) (led_by (Some Black) cs ++ led_by (Some White) cs) (None ∷ c) h
    pick (Some Black) c cs h = Contains-append_right (led_by None cs) (led_by (Some Black) cs ++ led_by (Some White) cs) (Some Black ∷ c)
        (Contains-append_left (led_by (Some Black) cs) (led_by (Some White) cs) (Some Black ∷ c) h)
    pick (Some White) c cs h = Contains-append_right (led_by None cs) (led_by (Some Black) cs ++ led_by (Some White) cs) (Some White ∷ c)
        (Contains-append_right (led_by (Some Black) cs) (led_by (Some White) cs) (Some White ∷ c) h)

-- there are 3 to the n of them
pub length-colourings_of : (n : ℕ) → length (colourings_of n) ≡ 3 ^ n
unfolding colourings_of
length-colourings_of zero = refl
length-colourings_of (suc n) =
    let cs = colourings_of n in
    let a = length-append (led_by None cs) (led_by (Some Black) cs ++ led_by (Some White) cs) in
    let b = length-append (led_by (Some Black) cs) (led_by (Some White) cs) in
    omega (arith, a, b, length-led_by None cs, length-led_by (Some Black) cs, length-led_by (Some White) cs, length-colourings_of n, pow-suc 3 n)

-- whether the colouring is not in the history
pub is_new : List (List (Option Colour)) → List (Option Colour) → Bool
is_new h c = not (repeats h c)

-- the test of newness is true exactly of what is not in the history
pub is_new_says : (h : List (List (Option Colour))) (c : List (Option Colour)) → (is_new h c ≡ true → Contains h c → ⊥) × ((Contains h c → ⊥) → is_new h c ≡ true) × (Contains h c → is_new h c ≡ false)
unfolding is_new
is_new_says h c =
    (λ e has. false≢true (sym (ap not ((repeats_is_exact h c).1 has)) ∙ e), λ fresh. ap not ((repeats_is_exact h c).2 fresh), λ has. ap not ((repeats_is_exact h c).1 has))

-- how many colourings of n points are not in the history
unfoldable pub new_count : List (List (Option Colour)) → ℕ → ℕ
new_count h n = count_by (is_new h) (colourings_of n)

-- what one test counts, a weaker one counts too
unit_le : (a b : Bool) → (a ≡ true → b ≡ true) → cond a 1 0 ≤ cond b 1 0
unit_le true b h = let e : b ≡ true = h refl in let P : Bool → Type 0 = λ x. 1 ≤ cond x 1 0 in subst P (sym e) (omega arith)
unit_le false b h = omega arith

-- a stricter test counts no more
pub count_fewer : {X : Type 0} (f g : X → Bool) (xs : List X) → ((x : X) → g x ≡ true → f x ≡ true) → count_by g xs ≤ count_by f xs
count_fewer f g xs le = sum_by-le-sum_by (λ x. cond (g x) 1 0) (λ x. cond (f x) 1 0) xs (λ x. unit_le (g x) (f x) (le x))

-- and fewer where an element passes the other alone
pub count_less : {X : Type 0} (f g : X → Bool) (xs : List X) → ((x : X) → g x ≡ true → f x ≡ true) → (y : X) → Contains xs y → f y ≡ true → g y ≡ false → count_by g xs < count_by f xs
count_less {X} f g [] le y has on off = absurd (omega (arith, has.1))
count_less {X} f g (x ∷ xs) le y has on off =
    let cf = sum_by-cons (λ (z : X). cond (f z) 1 0) x xs in
    let cg = sum_by-cons (λ (z : X). cond (g z) 1 0) x xs in
    elim has.0 as (λ k. k < suc (length xs) → get_or (x ∷ xs) k y ≡ y → count_by g (x ∷ xs) < count_by f (x ∷ xs)) [
      | zero ↦ λ in' e.
          let one : ◌≡◌ {A = ℕ} (cond (f x) 1 0) 1 = ap (λ z. cond (f z) 1 0) e ∙ ap (λ b. cond b 1 0) on in
          let none : ◌≡◌ {A = ℕ} (cond (g x) 1 0) 0 = ap (λ z. cond (g z) 1 0) e ∙ ap (λ b. cond b 1 0) off in
          omega (arith, cf, cg, one, none, count_fewer f g xs le)
      | suc k ↦ λ in' e.
          omega (arith, cf, cg, unit_le (g x) (f x) (le x), count_less f g xs le y (k, omega arith, e) on off)
    ] has.1 has.2
