-- Points and passes as property values: the reader against their definitions.
use Rattle.std.proofs.Common.{◌≡◌, ℕ, ◌+◌, ◌-◌, ◌*◌, ◌≤◌, ◌<◌, true, false, ◌&&◌, eqb, leb, ltb, List, [], ◌∷◌, length, Some, None, refl, sym, ap, subst, ◌∙◌, arith, inl, inr}
use Rattle.std.proofs.lemmas.Bool.{eqb-true, eq-eqb, ne_eqb, leb-true, ltb-true, le-leb, lt-ltb, and_parts, cases_Bool}
use Rattle.std.proofs.lemmas.Option.{cond_some, same_Some}
use Rattle.tt_sgf.specs.Bytes.{lower_a, lower_t}
use Rattle.tt_sgf.specs.declared.size.Size.{Size}
use Rattle.tt_sgf.specs.declared.size.PointOrPass.{PointOrPass}
use Rattle.tt_sgf.specs.declared.size.PointOrPass.TheVariants.{On, Pass}
use Rattle.tt_sgf.specs.Grammar.{is_blank}
use Rattle.tt_sgf.specs.Values.{StandsAloneIn, IsPoint, IsPointOrPass, trimmed, lettered_point, point_of}
use Rattle.tt_sgf.proofs.NumberLemmas.{trimmed_is, trimmed_stands}

-- no letter is white space
letter_is_no_blank : (b : ℕ) → lower_a ≤ b → is_blank b ≡ false
unfolding is_blank
letter_is_no_blank b h = grind arith

-- a text is a pass, a point of its two letters, or neither
pub point_of-nil : (size : Size) → point_of size [] ≡ Some Pass
unfolding point_of
point_of-nil size = refl

pub point_of-one : (size : Size) (c : ℕ) → point_of size (c ∷ []) ≡ None
unfolding point_of
point_of-one size c = refl

-- by the length of the text: no byte is a pass
pub point_of-empty : (size : Size) (xs : List ℕ) → length xs < 1 → Some Pass ≡ point_of size xs
unfolding point_of
point_of-empty size [] h = refl
point_of-empty size (x ∷ xs) h = absurd (omega (arith, h))

-- one byte is neither
pub point_of-letter : (size : Size) (xs : List ℕ) → 1 ≤ length xs → length xs < 2 → None ≡ point_of size xs
unfolding point_of
point_of-letter size [] l h = absurd (omega (arith, l))
point_of-letter size (x ∷ []) l h = refl
point_of-letter size (x ∷ y ∷ ys) l h = absurd (omega (arith, h))

-- nor are three and more
pub point_of-long : (size : Size) (xs : List ℕ) → 3 ≤ length xs → None ≡ point_of size xs
unfolding point_of
point_of-long size [] l = absurd (omega (arith, l))
point_of-long size (x ∷ []) l = absurd (omega (arith, l))
point_of-long size (x ∷ y ∷ []) l = absurd (omega (arith, l))
point_of-long size (x ∷ y ∷ z ∷ zs) l = refl

pub point_of-pass : (size : Size) (c r : ℕ) → c ≡ lower_t → r ≡ lower_t → point_of size (c ∷ r ∷ []) ≡ Some Pass
unfolding point_of
point_of-pass size c r h k = rw (h, k) refl

pub point_of-first : (size : Size) (c r : ℕ) → (c ≡ lower_t → ⊥) → point_of size (c ∷ r ∷ []) ≡ lettered_point size c r
unfolding point_of
point_of-first size c r h = rw (ne_eqb c lower_t h) refl

pub point_of-second : (size : Size) (c r : ℕ) → c ≡ lower_t → (r ≡ lower_t → ⊥) → point_of size (c ∷ r ∷ []) ≡ lettered_point size c r
unfolding point_of
point_of-second size c r h k = rw (h, ne_eqb r lower_t k) refl

-- a value that is a point or a pass is read as it
pub point_again : (size : Size) (bytes : List ℕ) (q : PointOrPass) → IsPointOrPass size bytes q → point_of size (trimmed bytes) ≡ Some q
point_again size bytes (On p) h =
    let c = lower_a + h.column in
    let r = lower_a + h.row in
    let text = trimmed_is (c ∷ r ∷ []) bytes (letter_is_no_blank c (omega arith), (letter_is_no_blank r (omega arith), tt)) h.stands in
    let c-is : c - lower_a ≡ h.column = omega arith in
    let r-is : r - lower_a ≡ h.row = omega arith in
    let wide = size.columns_in in
    let column_in = h.column_in in
    ap (point_of size) text ∙ point_of-first size c r (λ e. absurd (omega arith))
    ∙ rw (c-is, r-is, le-leb lower_a c (omega arith), le-leb lower_a r (omega arith), lt-ltb h.column size.columns h.column_in, lt-ltb h.row size.rows h.row_in)
    (ap (λ (n : ℕ). Some (On n)) (sym h.number))
point_again size bytes Pass h =
    elim h [
      | inl s ↦ ap (point_of size) (trimmed_is [] bytes tt s) ∙ point_of-nil size
      | inr s ↦
          let no_blank = letter_is_no_blank lower_t (omega arith) in
          ap (point_of size) (trimmed_is (lower_t ∷ lower_t ∷ []) bytes (no_blank, (no_blank, tt)) s) ∙ point_of-pass size lower_t lower_t refl refl
    ]

-- two letters read as a point are that point
place_takes : (size : Size) (bytes : List ℕ) (c r : ℕ) (q : PointOrPass) → StandsAloneIn (c ∷ r ∷ []) bytes → lettered_point size c r ≡ Some q → IsPointOrPass size bytes q
place_takes size bytes c r q s h =
    let k = cond_some ((leb lower_a c && ltb (c - lower_a) size.columns) && (leb lower_a r && ltb (r - lower_a) size.rows)) (On ((r - lower_a) * size.columns + (c - lower_a))) q h in
    let both = and_parts (leb lower_a c && ltb (c - lower_a) size.columns) (leb lower_a r && ltb (r - lower_a) size.rows) k.0 in
    let first = and_parts (leb lower_a c) (ltb (c - lower_a) size.columns) both.0 in
    let second = and_parts (leb lower_a r) (ltb (r - lower_a) size.rows) both.1 in
    let c-le = leb-true lower_a c first.0 in
    let r-le = leb-true lower_a r second.0 in
    let c-is : c ≡ lower_a + (c - lower_a) = omega arith in
    let r-is : r ≡ lower_a + (r - lower_a) = omega arith in
    let made : IsPoint size bytes ((r - lower_a) * size.columns + (c - lower_a)) = record {
      column = c - lower_a;
      row = r - lower_a;
      column_in = ltb-true (c - lower_a) size.columns first.1;
      row_in = ltb-true (r - lower_a) size.rows second.1;
      number = refl;
      stands = subst (λ (x : ℕ). StandsAloneIn (x ∷ (lower_a + (r - lower_a)) ∷ []) bytes) c-is (subst (λ (y : ℕ). StandsAloneIn (c ∷ y ∷ []) bytes) r-is s);
    } in
    subst (λ (x : PointOrPass). IsPointOrPass size bytes x) k.1 made

-- a text read as a point or a pass is it
takes : (size : Size) (text bytes : List ℕ) (q : PointOrPass) → StandsAloneIn text bytes → point_of size text ≡ Some q → IsPointOrPass size bytes q
takes size [] bytes q s h = subst (λ (x : PointOrPass). IsPointOrPass size bytes x) (same_Some Pass q (sym (point_of-nil size) ∙ h)) (inl s)
takes size (c ∷ []) bytes q s h = absurd (let e : point_of size (c ∷ []) ≡ None = point_of-one size c in cc)
takes size (c ∷ r ∷ []) bytes q s h =
    elim (cases_Bool (eqb c lower_t)) [
      | inl e ↦ elim (cases_Bool (eqb r lower_t)) [
        | inl f ↦
            let c-is = eqb-true c lower_t e in
            let r-is = eqb-true r lower_t f in
            subst (λ (x : PointOrPass). IsPointOrPass size bytes x) (same_Some Pass q (sym (point_of-pass size c r c-is r-is) ∙ h))
            (inr (subst (λ (x : ℕ). StandsAloneIn (x ∷ lower_t ∷ []) bytes) c-is (subst (λ (y : ℕ). StandsAloneIn (c ∷ y ∷ []) bytes) r-is s)))
        | inr f ↦ place_takes size bytes c r q s (sym (point_of-second size c r (eqb-true c lower_t e) (λ k. absurd (let g = eq-eqb r lower_t k in let u : true ≡ false = sym g ∙ f in cc))) ∙ h)
      ]
      | inr e ↦ place_takes size bytes c r q s (sym (point_of-first size c r (λ k. absurd (let g = eq-eqb c lower_t k in let u : true ≡ false = sym g ∙ e in cc))) ∙ h)
    ]
takes size (c ∷ r ∷ x ∷ xs) bytes q s h = absurd (let e : None ≡ point_of size (c ∷ r ∷ x ∷ xs) = point_of-long size (c ∷ r ∷ x ∷ xs) (omega arith) in cc)

-- a value read as a point or a pass is it
pub point_takes : (size : Size) (bytes : List ℕ) (q : PointOrPass) → point_of size (trimmed bytes) ≡ Some q → IsPointOrPass size bytes q
point_takes size bytes q h = takes size (trimmed bytes) bytes q (trimmed_stands bytes) h
