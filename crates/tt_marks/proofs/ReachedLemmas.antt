-- What is reached, by the set of what reaches the first points on a colouring of its own: White stands on the first points, and Black on the other free ones.
use Rattle.std.proofs.Common.{◌≡◌, ◌≢◌, ℕ, ◌<◌, ◌≤◌, ◌⊎◌, ◌↔◌, ◌&&◌, ◌||◌, not, List, map, Option, Some, None, Bool, true, false, inl, inr, refl, sym, ap, ◌∙◌, arith}
use Rattle.std.specs.List.{range_with_len}
use Rattle.std.proofs.lemmas.Bool.{cases_Bool, false≢true}
use Rattle.std.proofs.lemmas.List.FromFn.{get_or-map-range_with_len}
use Rattle.tt_sgf.specs.declared.size.Size.{Size}
use Rattle.tt_sgf.specs.declared.bits.TheConstants.{BITS}
use Rattle.tt_sgf.specs.Sizes.{point_count}
use Rattle.tt_sgf.specs.laws.SizeLaws.{point_count_is_bounded}
use Rattle.tt_sgf.specs.MachineWords.{bit_in}
use Rattle.tt_board.specs.declared.Colour.{Colour}
use Rattle.tt_board.specs.declared.Colour.TheVariants.{Black, White}
use Rattle.tt_board.specs.Position.{Colouring}
use Rattle.tt_board.specs.Around.{AreOn, AreThose, AreReaching}
use Rattle.tt_board.specs.Reach.{entry_at, Reaches}
use Rattle.tt_board.specs.ReachLaws.{reaches_beside, reaches_on, reaches_all}
use Rattle.tt_marks.specs.Reached.{Has, IsReached, first, next}

-- a point of the board has its bit
pub small : (s : Size) (p : ℕ) → p < point_count s → p < BITS
small s p in_p = omega (arith, point_count_is_bounded s)

-- what is reached over fewer free points, from fewer first ones, is reached
pub reached_wider : (s : Size) (F G F' G' : ℕ → Type 0) → ((p : ℕ) → p < point_count s → F p → F' p) → ((p : ℕ) → p < point_count s → G p → G' p)
    → (p : ℕ) → IsReached s F G p → IsReached s F' G' p
reached_wider s F G F' G' free_too first_too p (first _ in_p h) = first p in_p (first_too p in_p h)
reached_wider s F G F' G' free_too first_too p (next _ q in_p h near r) = next p q in_p (free_too p in_p h) near (reached_wider s F G F' G' free_too first_too q r)

-- ---- the colouring

abbrev mark : Bool → Bool → Option Colour
mark true own = Some White
mark false true = Some Black
mark false false = None

unfoldable pub marked : Size → List ℕ → List ℕ → Colouring
marked s free firsts = map (λ q. mark (bit_in firsts q) (bit_in free q)) (range_with_len 0 (point_count s))

black_of : (f w : Bool) → (f && not w) ≡ true → mark w f ≡ Some Black
black_of true false h = refl
black_of true true h = absurd (false≢true h)
black_of false w h = absurd (false≢true h)

of_black : (f w : Bool) → mark w f ≡ Some Black → (f && not w) ≡ true
of_black true false h = refl
of_black true true h = absurd (let e : Some White ≡ Some Black = h in cc)
of_black false true h = absurd (let e : Some White ≡ Some Black = h in cc)
of_black false false h = absurd (let e : ◌≡◌ {A = Option Colour} None (Some Black) = h in cc)

free_of : (f w : Bool) → mark w f ≡ Some Black → f ≡ true
free_of true w h = refl
free_of false true h = absurd (let e : Some White ≡ Some Black = h in cc)
free_of false false h = absurd (let e : ◌≡◌ {A = Option Colour} None (Some Black) = h in cc)

white_of : (f w : Bool) → w ≡ true → mark w f ≡ Some White
white_of f true h = refl
white_of f false h = absurd (false≢true h)

of_white : (f w : Bool) → mark w f ≡ Some White → w ≡ true
of_white f true h = refl
of_white true false h = absurd (let e : Some Black ≡ Some White = h in cc)
of_white false false h = absurd (let e : ◌≡◌ {A = Option Colour} None (Some White) = h in cc)

not_white : (x : Option Colour) → x ≡ Some Black → x ≢ Some White
not_white x h = λ w. let e : Some Black ≡ Some White = sym h ∙ w in cc

or_right : (a b : Bool) → b ≡ true → (a || b) ≡ true
or_right true b h = refl
or_right false b h = h

or_left : (a b : Bool) → a ≡ true → (a || b) ≡ true
or_left true b h = refl
or_left false b h = absurd (false≢true h)

or_either : (a b : Bool) → (a || b) ≡ true → (a ≡ true) ⊎ (b ≡ true)
or_either true b h = inl refl
or_either false b h = inr h

module _ (s : Size) (free firsts : List ℕ) where
  c : Colouring
  c = marked s free firsts

  entry : (q : ℕ) → q < point_count s → entry_at (marked s free firsts) q ≡ mark (bit_in firsts q) (bit_in free q)
  unfolding marked
  entry q in_q = get_or-map-range_with_len (λ x. mark (bit_in firsts x) (bit_in free x)) 0 (point_count s) q q None in_q (omega arith)

  -- a free point that reaches a first one is reached
  reached_of : (q : ℕ) → q < point_count s → entry_at (marked s free firsts) q ≡ Some Black → Reaches s (marked s free firsts) q (Some White) → IsReached s (Has (bit_in free)) (Has (bit_in firsts)) q
  reached_of q in_q black r =
      reaches_all s (marked s free firsts) (Some White) (λ x. entry_at (marked s free firsts) x ≡ Some Black → IsReached s (Has (bit_in free)) (Has (bit_in firsts)) x)
      (λ x y in_x _ near white own_x. next x y in_x (free_of (bit_in free x) (bit_in firsts x) (sym (entry x in_x) ∙ own_x)) near
      (first y near.0 (of_white (bit_in free y) (bit_in firsts y) (sym (entry y near.0) ∙ white))))
      (λ x y in_x _ near same h own_x. next x y in_x (free_of (bit_in free x) (bit_in firsts x) (sym (entry x in_x) ∙ own_x)) near (h (same ∙ own_x)))
      q r.path in_q r.adjacent r.alike r.other r.found r.beside r.has_entry black

  -- what is reached is a first point, or a free one that reaches one
  abbrev pub IsFirstOrReaches : ℕ → Type 0
  IsFirstOrReaches q = Has (bit_in firsts) q ⊎ ((entry_at (marked s free firsts) q ≡ Some Black) × Reaches s (marked s free firsts) q (Some White))

  reaches_of : (q : ℕ) → IsReached s (Has (bit_in free)) (Has (bit_in firsts)) q → IsFirstOrReaches q
  reaches_of q (first _ in_q h) = inl h
  reaches_of p (next _ q in_p own near r) = elim (cases_Bool (bit_in firsts p)) [
    | inl w ↦ inl w
    | inr w ↦
        let black : entry_at (marked s free firsts) p ≡ Some Black = entry p in_p ∙ ap (λ b. mark b (bit_in free p)) w ∙ ap (mark false) own in
        inr (
          black,
          elim (reaches_of q r) [
            | inl h ↦ reaches_beside s (marked s free firsts) (Some White) p q (not_white _ black) near (entry q near.0 ∙ white_of (bit_in free q) (bit_in firsts q) h)
            | inr more ↦ reaches_on s (marked s free firsts) (Some White) p q near (more.0 ∙ sym black) more.1
          ],
        )
  ]

  module _ (own found made : List ℕ) (own_is : (q : ℕ) → q < BITS → bit_in own q ≡ (bit_in free q && not (bit_in firsts q)))
      (reach : (c' : Colouring) (a e : Option Colour) → a ≢ e → AreThose s own c' a → AreThose s firsts c' e → AreReaching s found c' a e)
      (made_is : (q : ℕ) → q < BITS → bit_in made q ≡ (bit_in found q || bit_in firsts q)) where
    those_own : AreThose s own (marked s free firsts) (Some Black)
    those_own q in_q = (
      λ on. entry q in_q ∙ black_of (bit_in free q) (bit_in firsts q) (sym (own_is q (small s q in_q)) ∙ on),
      λ black. own_is q (small s q in_q) ∙ of_black (bit_in free q) (bit_in firsts q) (sym (entry q in_q) ∙ black),
    )

    those_first : AreThose s firsts (marked s free firsts) (Some White)
    those_first q in_q = (
      λ on. entry q in_q ∙ white_of (bit_in free q) (bit_in firsts q) on,
      λ white. of_white (bit_in free q) (bit_in firsts q) (sym (entry q in_q) ∙ white),
    )

    reaching_is : AreReaching s found (marked s free firsts) (Some Black) (Some White)
    reaching_is = reach (marked s free firsts) (Some Black) (Some White) (λ e. cc) those_own those_first

    -- the first points and what reaches them are what is reached
    pub all_reached : (p : ℕ) → p < point_count s → Has (bit_in made) p ↔ IsReached s (Has (bit_in free)) (Has (bit_in firsts)) p
    all_reached p in_p = (
      λ on. elim (or_either (bit_in found p) (bit_in firsts p) (sym (made_is p (small s p in_p)) ∙ on)) [
        | inl h ↦ let r = (reaching_is p in_p).0 h in reached_of p in_p r.0 r.1
        | inr h ↦ first p in_p h
      ],
      λ r. made_is p (small s p in_p) ∙ elim (reaches_of p r) [
        | inl h ↦ or_right (bit_in found p) (bit_in firsts p) h
        | inr h ↦ or_left (bit_in found p) (bit_in firsts p) ((reaching_is p in_p).1 h)
      ],
    )

-- ---- the bits of a board's points alone

pub cut_is : (s : Size) (was made : List ℕ) (n : ℕ) {X : ℕ → Type 0} → n ≡ point_count s → ((p : ℕ) → p < point_count s → Has (bit_in was) p ↔ X p)
    → ((q : ℕ) → q < BITS → q < n → bit_in made q ≡ bit_in was q) → (p : ℕ) → p < point_count s → Has (bit_in made) p ↔ X p
cut_is s was made n e are kept p in_p =
    let same = kept p (small s p in_p) (omega (arith, e, in_p)) in
    (λ h. (are p in_p).0 (sym same ∙ h), λ x. same ∙ (are p in_p).1 x)

pub cut_on : (s : Size) (made : List ℕ) (n : ℕ) → n ≡ point_count s → ((q : ℕ) → q < BITS → n ≤ q → bit_in made q ≡ false) → AreOn s made
cut_on s made n e none q past lt = none q lt (omega (arith, e, past))
