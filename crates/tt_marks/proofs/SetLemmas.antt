-- Sets of points and the bits that they are made of.
use Rattle.std.proofs.Common.{◌≡◌, ℕ, zero, suc, ◌+◌, ◌<◌, ◌↔◌, Option, Some, None, Bool, true, false, inl, inr, refl, sym, ap, ◌∙◌, ltb, arith}
use Rattle.std.proofs.lemmas.Bool.{and_parts, cases_Bool, cases_lt, lt-ltb, le-ltb, true≢false}
use Rattle.std.specs.FinSet as set
use Rattle.tt_sgf.specs.declared.size.Size.{Size}
use Rattle.tt_sgf.specs.Points.{passing}
use Rattle.tt_sgf.specs.Sizes.{point_count}
use Rattle.tt_sgf.specs.laws.PointLaws.{contains-passing, passing-in, passing-out, passing-zero}
use Rattle.tt_board.specs.declared.Colour.{Colour}
use Rattle.tt_board.specs.Position.{Colouring}
use Rattle.tt_board.specs.Play.{is_empty}
use Rattle.tt_board.specs.Reach.{entry_at}
use Rattle.tt_board.specs.Stones.{PointNumberSet}
use Rattle.tt_marks.specs.Reached.{Has}

-- no number is below 0, and one more passes or doesn't
pub passing_none : (f : ℕ → Bool) → passing f 0 ≡ set.empty
passing_none f = passing-zero f

next_number : (n : ℕ) → n + 1 ≡ suc n
next_number n = omega arith

pub passing_more : (f : ℕ → Bool) (n : ℕ) → f n ≡ true → passing f (n + 1) ≡ set.insert (passing f n) n
passing_more f n h = ap (passing f) (next_number n) ∙ passing-in f n h

pub passing_same : (f : ℕ → Bool) (n : ℕ) → f n ≡ false → passing f (n + 1) ≡ passing f n
passing_same f n h = ap (passing f) (next_number n) ∙ passing-out f n h

-- a point of the board is in the set where it passes
pub has_passing : (f : ℕ → Bool) (n p : ℕ) → p < n → set.contains (passing f n) p ≡ f p
has_passing f n p lt = contains-passing f n p ∙ rw (lt-ltb p n lt) refl

-- and no other number is
pub passing_below : (f : ℕ → Bool) (n p : ℕ) → set.contains (passing f n) p ≡ true → p < n
passing_below f n p h = elim (cases_lt p n) [
  | inl below ↦ below
  | inr past ↦ absurd (true≢false (sym (and_parts (ltb p n) (f p) (sym (contains-passing f n p) ∙ h)).0 ∙ le-ltb p n past))
]

-- the same numbers pass
pub same_passing : (f g : ℕ → Bool) (n : ℕ) → ((p : ℕ) → p < n → f p ≡ g p) → passing f n ≡ passing g n
same_passing f g zero same = passing-zero f ∙ sym (passing-zero g)
same_passing f g (suc n) same =
    let before = same_passing f g n (λ p lt. same p (omega arith)) in
    let here : f n ≡ g n = same n (omega arith) in
    elim (cases_Bool (g n)) [
      | inl on ↦ passing-in f n (here ∙ on) ∙ ap (λ x. set.insert x n) before ∙ sym (passing-in g n on)
      | inr off ↦ passing-out f n (here ∙ off) ∙ before ∙ sym (passing-out g n off)
    ]

-- the set of what passes
pub same_as_set : (f : ℕ → Bool) (n : ℕ) (made : PointNumberSet) → made ≡ passing f n → (p : ℕ) → p < n → set.contains made p ≡ f p
same_as_set f n made is p lt = ap (λ x. set.contains x p) is ∙ has_passing f n p lt

pub has_of_set : {X : Type 0} (f : ℕ → Bool) (n p : ℕ) (made : PointNumberSet) → made ≡ passing f n → p < n → (Has f p ↔ X) → Has (set.contains made) p ↔ X
has_of_set f n p made is lt has =
    let e = same_as_set f n made is p lt in
    (λ h. has.0 (sym e ∙ h), λ x. e ∙ has.1 x)

pub passing_on_board : (f : ℕ → Bool) (n : ℕ) (made : PointNumberSet) → made ≡ passing f n → (p : ℕ) → set.contains made p ≡ true → p < n
passing_on_board f n made is p h = passing_below f n p (sym (ap (λ x. set.contains x p) is) ∙ h)

-- the empty points
empty_test : (x : Option Colour) (b : Bool) → (b ≡ true → x ≡ None) → (x ≡ None → b ≡ true) → b ≡ is_empty x
empty_test None b there back = back refl
empty_test (Some k) true there back = absurd (let e : Some k ≡ None = there refl in cc)
empty_test (Some k) false there back = refl

pub empties_are : (s : Size) (c : Colouring) (f : ℕ → Bool) → ((p : ℕ) → p < point_count s → Has f p ↔ (entry_at c p ≡ None))
    → passing f (point_count s) ≡ passing (λ p. is_empty (entry_at c p)) (point_count s)
empties_are s c f are = same_passing f (λ p. is_empty (entry_at c p)) (point_count s) (λ p lt. empty_test (entry_at c p) (f p) (are p lt).0 (are p lt).1)
