-- Entries of point lists: the readers against their definitions.
use Rattle.std.proofs.Common.{◌≡◌, ◌≢◌, ℕ, zero, suc, ◌+◌, ◌-◌, ◌*◌, ◌/◌, ◌%◌, ◌<◌, ◌≤◌, Bool, true, false, ◌&&◌, ◌||◌, cond, eqb, leb, ltb, List, [], ◌∷◌, length, get_or, Option}
use Rattle.std.proofs.Common.{Some, None, refl, sym, ap, subst, ◌∙◌, arith, inl, inr}
use Rattle.std.proofs.lemmas.Bool.{cases_Bool, cases_eq, cases_lt, eqb-true, eq-eqb, ne_eqb, lt-ltb, le-ltb, ltb-true, leb-true, le-leb, and_parts, or_cases}
use Rattle.std.proofs.lemmas.Nat.{mul-le, mul-add-lt, div-mul-add, mod-mul-add}
use Rattle.std.specs.Cmp.{nat_cmp_total, unsigned_tied}
use Rattle.std.specs.Ordering.{nat_cmp, eq_by_cmp}
use Rattle.std.specs.FinSet as set
use Rattle.tt_sgf.specs.Bytes.{colon, lower_a}
use Rattle.tt_sgf.specs.declared.size.TheConstants.{MOST_POINTS}
use Rattle.tt_sgf.specs.declared.size.Size.{Size}
use Rattle.tt_sgf.specs.declared.point_lists.Rectangle.{Rectangle}
use Rattle.std.specs.List.{list_any, list_all}
use Rattle.std.specs.Option.{is_some}
use Rattle.std.proofs.lemmas.Option.{same_Some}
use Rattle.tt_sgf.specs.Grammar.{is_blank}
use Rattle.tt_sgf.specs.Values.{StandsAloneIn, are_letters_on_board, trimmed}
use Rattle.tt_sgf.specs.PointLists.{IsEntryWithCorners, IsPointOrRectangle, Covers, SomeEntryCovers, AreEntries}
use Rattle.tt_sgf.specs.PointLists.{rectangle_between, rectangle_of_text, in_rectangle, rectangle_covers, covers, is_entry, set_of}
use Rattle.tt_sgf.specs.Points.{passing}
use Rattle.tt_sgf.specs.laws.PointLaws.{contains-passing}
use Rattle.tt_sgf.proofs.NumberLemmas.{trimmed_is, trimmed_stands}

-- ---- texts of two and of five bytes

-- a text of two bytes is its first and its second
pub two : (xs : List ℕ) → length xs ≡ 2 → xs ≡ get_or xs 0 0 ∷ get_or xs 1 0 ∷ []
two [] h = absurd (omega arith)
two (a ∷ []) h = absurd (omega arith)
two (a ∷ b ∷ []) h = refl
two (a ∷ b ∷ c ∷ xs) h = absurd (omega arith)

-- a text of five bytes is these five
pub five : (xs : List ℕ) → length xs ≡ 5 → xs ≡ get_or xs 0 0 ∷ get_or xs 1 0 ∷ get_or xs 2 0 ∷ get_or xs 3 0 ∷ get_or xs 4 0 ∷ []
five [] h = absurd (omega arith)
five (a ∷ []) h = absurd (omega arith)
five (a ∷ b ∷ []) h = absurd (omega arith)
five (a ∷ b ∷ c ∷ []) h = absurd (omega arith)
five (a ∷ b ∷ c ∷ d ∷ []) h = absurd (omega arith)
five (a ∷ b ∷ c ∷ d ∷ e ∷ []) h = refl
five (a ∷ b ∷ c ∷ d ∷ e ∷ f ∷ xs) h = absurd (omega arith)

module _ (size : Size) where
  -- the letters of one point name it on the board, and no entry off it
  pub two_in : (c r : ℕ) → are_letters_on_board size c r ≡ true → rectangle_of_text size (c ∷ r ∷ []) ≡ Some (rectangle_between (c - lower_a) (r - lower_a) (c - lower_a) (r - lower_a))
  unfolding rectangle_of_text
  two_in c r h = rw h refl

  pub two_out : (c r : ℕ) → are_letters_on_board size c r ≡ false → rectangle_of_text size (c ∷ r ∷ []) ≡ None
  unfolding rectangle_of_text
  two_out c r h = rw h refl

  -- the letters of two corners name their rectangle on the board, and no entry with one of them off it
  pub five_in : (c r m d s : ℕ) → m ≡ colon → are_letters_on_board size c r ≡ true → are_letters_on_board size d s ≡ true
      → rectangle_of_text size (c ∷ r ∷ m ∷ d ∷ s ∷ []) ≡ Some (rectangle_between (c - lower_a) (r - lower_a) (d - lower_a) (s - lower_a))
  unfolding rectangle_of_text
  five_in c r m d s e h k = rw (e, h, k) refl

  pub five_first : (c r m d s : ℕ) → m ≡ colon → are_letters_on_board size c r ≡ false → rectangle_of_text size (c ∷ r ∷ m ∷ d ∷ s ∷ []) ≡ None
  unfolding rectangle_of_text
  five_first c r m d s e h = rw (e, h) refl

  pub five_second : (c r m d s : ℕ) → m ≡ colon → are_letters_on_board size c r ≡ true → are_letters_on_board size d s ≡ false → rectangle_of_text size (c ∷ r ∷ m ∷ d ∷ s ∷ []) ≡ None
  unfolding rectangle_of_text
  five_second c r m d s e h k = rw (e, h, k) refl

  -- a text of another length, or of five bytes with no colon amid them, is no entry
  pub no_entry : (xs : List ℕ) → (length xs ≡ 2 → ⊥) → (length xs ≡ 5 → get_or xs 2 0 ≡ colon → ⊥) → rectangle_of_text size xs ≡ None
  unfolding rectangle_of_text
  no_entry [] h k = refl
  no_entry (a ∷ []) h k = refl
  no_entry (a ∷ b ∷ []) h k = absurd (h (omega arith))
  no_entry (a ∷ b ∷ c ∷ []) h k = refl
  no_entry (a ∷ b ∷ c ∷ d ∷ []) h k = refl
  no_entry (a ∷ b ∷ c ∷ d ∷ e ∷ []) h k = rw (ne_eqb c colon (k (omega arith))) refl
  no_entry (a ∷ b ∷ c ∷ d ∷ e ∷ f ∷ xs) h k = refl

-- ---- the loop over the board

-- the order of numbers has two as one exactly where they are equal
tied : (q n : ℕ) → eq_by_cmp nat_cmp q n ≡ eqb q n
tied q n = unsigned_tied q n

or_with_true : (b : Bool) → (b || true) ≡ true
or_with_true true = refl
or_with_true false = refl

module _ (t : set.FinSet nat_cmp) (f : ℕ → Bool) where
  -- a number other than n is below n + 1 exactly where it is below n
  same_below : (q n : ℕ) → (q ≡ n → ⊥) → ltb q (n + 1) ≡ ltb q n
  same_below q n ne = elim (cases_lt q n) [
    | inl lt ↦ lt-ltb q (n + 1) (omega arith) ∙ sym (lt-ltb q n lt)
    | inr ge ↦ let other : q ≢ n = ne in le-ltb q (n + 1) (omega arith) ∙ sym (le-ltb q n ge)
  ]

  module _ (s : set.FinSet nat_cmp) (n : ℕ) (so_far : (q : ℕ) → set.contains s q ≡ (set.contains t q || (ltb q n && f q))) where
    -- a number that passes is put in the set
    pub filled_more : f n ≡ true → (q : ℕ) → set.contains (set.insert s n) q ≡ (set.contains t q || (ltb q (n + 1) && f q))
    filled_more h q = set.contains-insert nat_cmp_total s n q ∙ rw (tied q n, so_far q) (elim (cases_eq q n) [
      | inl e ↦ rw (e, eq-eqb n n refl, lt-ltb n (n + 1) (omega arith), h) (sym (or_with_true (set.contains t n)))
      | inr d ↦ rw (ne_eqb q n d, same_below q n d) refl
    ])

    -- for one that doesn't pass the set stays
    pub filled_stays : f n ≡ false → (q : ℕ) → set.contains s q ≡ (set.contains t q || (ltb q (n + 1) && f q))
    filled_stays h q = so_far q ∙ elim (cases_eq q n) [
      | inl e ↦ rw (e, h, le-ltb n n (omega arith), lt-ltb n (n + 1) (omega arith)) refl
      | inr d ↦ rw (same_below q n d) refl
    ]

-- the same corners have the same rectangle
pub between_is : (c r d s c' r' d' s' : ℕ) → c ≡ c' → r ≡ r' → d ≡ d' → s ≡ s' → rectangle_between c r d s ≡ rectangle_between c' r' d' s'
between_is c r d s c' r' d' s' h k l m = rw (h, k, l, m) refl

-- ---- an entry

-- the letters of a corner are `a` or later ones, and name a column and a row of the board
corner_parts : (size : Size) (c r : ℕ) → are_letters_on_board size c r ≡ true → (lower_a ≤ c) × (c - lower_a < size.columns) × (lower_a ≤ r) × (r - lower_a < size.rows)
corner_parts size c r h =
    let both = and_parts (leb lower_a c && ltb (c - lower_a) size.columns) (leb lower_a r && ltb (r - lower_a) size.rows) h in
    let first = and_parts (leb lower_a c) (ltb (c - lower_a) size.columns) both.0 in
    let second = and_parts (leb lower_a r) (ltb (r - lower_a) size.rows) both.1 in
    (leb-true lower_a c first.0, ltb-true (c - lower_a) size.columns first.1, leb-true lower_a r second.0, ltb-true (r - lower_a) size.rows second.1)

-- the letters of a column and a row of the board are a corner
corner_made : (size : Size) (c r : ℕ) → c < size.columns → r < size.rows → are_letters_on_board size (lower_a + c) (lower_a + r) ≡ true
corner_made size c r h k =
    let c-is : lower_a + c - lower_a ≡ c = omega arith in
    let r-is : lower_a + r - lower_a ≡ r = omega arith in
    rw (c-is, r-is, le-leb lower_a (lower_a + c) (omega arith), le-leb lower_a (lower_a + r) (omega arith), lt-ltb c size.columns h, lt-ltb r size.rows k) refl

-- no byte from the colon on is white space
letter_is_no_blank : (b : ℕ) → colon ≤ b → is_blank b ≡ false
unfolding is_blank
letter_is_no_blank b h = grind arith

-- an entry is read as the rectangle of its corners
pub entry_again : (size : Size) (v : List ℕ) (c r d s : ℕ) → IsEntryWithCorners size v c r d s → rectangle_of_text size (trimmed v) ≡ Some (rectangle_between c r d s)
entry_again size v c r d s h =
    let c-is : lower_a + c - lower_a ≡ c = omega arith in
    let r-is : lower_a + r - lower_a ≡ r = omega arith in
    let d-is : lower_a + d - lower_a ≡ d = omega arith in
    let s-is : lower_a + s - lower_a ≡ s = omega arith in
    let bc = letter_is_no_blank (lower_a + c) (omega arith) in
    let br = letter_is_no_blank (lower_a + r) (omega arith) in
    let bd = letter_is_no_blank (lower_a + d) (omega arith) in
    let bs = letter_is_no_blank (lower_a + s) (omega arith) in
    let bm = letter_is_no_blank colon (omega arith) in
    elim h.stands [
      | inl x ↦
          ap (rectangle_of_text size) (trimmed_is ((lower_a + c) ∷ (lower_a + r) ∷ []) v (bc, (br, tt)) x.2) ∙ two_in size (lower_a + c) (lower_a + r) (corner_made size c r h.c_in h.r_in)
          ∙ ap (λ (e : Rectangle). Some e) (between_is _ _ _ _ c r d s c-is r-is (c-is ∙ sym x.0) (r-is ∙ sym x.1))
      | inr x ↦
          ap (rectangle_of_text size) (trimmed_is ((lower_a + c) ∷ (lower_a + r) ∷ colon ∷ (lower_a + d) ∷ (lower_a + s) ∷ []) v (bc, (br, (bm, (bd, (bs, tt))))) x)
          ∙ five_in size (lower_a + c) (lower_a + r) colon (lower_a + d) (lower_a + s) refl (corner_made size c r h.c_in h.r_in) (corner_made size d s h.d_in h.s_in)
          ∙ ap (λ (e : Rectangle). Some e) (between_is _ _ _ _ c r d s c-is r-is d-is s-is)
    ]

-- the value is an entry with this rectangle
abbrev EntryAt : Size → List ℕ → Rectangle → Type 0
EntryAt size v e = (h : IsPointOrRectangle size v) × (e ≡ rectangle_between h.0 h.1 h.2 h.3)

-- letters from `a` on stand there as `a` and the numbers of columns and rows: five bytes
five_stands : (v : List ℕ) (c r m d s : ℕ) → m ≡ colon → lower_a ≤ c → lower_a ≤ r → lower_a ≤ d → lower_a ≤ s → StandsAloneIn (c ∷ r ∷ m ∷ d ∷ s ∷ []) v
    → StandsAloneIn ((lower_a + (c - lower_a)) ∷ (lower_a + (r - lower_a)) ∷ colon ∷ (lower_a + (d - lower_a)) ∷ (lower_a + (s - lower_a)) ∷ []) v
five_stands v c r m d s e hc hr hd hs x =
    let c-is : lower_a + (c - lower_a) ≡ c = omega arith in
    let r-is : lower_a + (r - lower_a) ≡ r = omega arith in
    let d-is : lower_a + (d - lower_a) ≡ d = omega arith in
    let s-is : lower_a + (s - lower_a) ≡ s = omega arith in
    rw (c-is, r-is, d-is, s-is) (subst (λ (y : ℕ). StandsAloneIn (c ∷ r ∷ y ∷ d ∷ s ∷ []) v) e x)

-- and two
two_stands : (v : List ℕ) (c r : ℕ) → lower_a ≤ c → lower_a ≤ r → StandsAloneIn (c ∷ r ∷ []) v → StandsAloneIn ((lower_a + (c - lower_a)) ∷ (lower_a + (r - lower_a)) ∷ []) v
two_stands v c r hc hr x =
    let c-is : lower_a + (c - lower_a) ≡ c = omega arith in
    let r-is : lower_a + (r - lower_a) ≡ r = omega arith in
    rw (c-is, r-is) x

-- something that is given only under a test: the test is true, and it is that
some_if : {A : Type 0} (b : Bool) (o : Option A) (y : A) → cond b o None ≡ Some y → (b ≡ true) × (o ≡ Some y)
some_if true o y e = (refl, e)
some_if false o y e = absurd cc

-- a text read as a rectangle is an entry with this rectangle
taken : (size : Size) (text v : List ℕ) (e : Rectangle) → StandsAloneIn text v → rectangle_of_text size text ≡ Some e → EntryAt size v e
unfolding rectangle_of_text
taken size [] v e x h = absurd cc
taken size (c ∷ []) v e x h = absurd cc
taken size (c ∷ r ∷ []) v e x h =
    let k = some_if (are_letters_on_board size c r) _ e h in
    let p = corner_parts size c r k.0 in
    let is : rectangle_between (c - lower_a) (r - lower_a) (c - lower_a) (r - lower_a) ≡ e = same_Some _ _ k.1 in
    ((c - lower_a, r - lower_a, c - lower_a, r - lower_a, record { c_in = p.1; r_in = p.3; d_in = p.1; s_in = p.3; stands = inl (refl, refl, two_stands v c r p.0 p.2 x) }), sym is)
taken size (c ∷ r ∷ m ∷ []) v e x h = absurd cc
taken size (c ∷ r ∷ m ∷ d ∷ []) v e x h = absurd cc
taken size (c ∷ r ∷ m ∷ d ∷ s ∷ []) v e x h =
    let a = some_if (eqb m colon) _ e h in
    let k = some_if (are_letters_on_board size c r) _ e a.1 in
    let l = some_if (are_letters_on_board size d s) _ e k.1 in
    let p = corner_parts size c r k.0 in
    let q = corner_parts size d s l.0 in
    let is : rectangle_between (c - lower_a) (r - lower_a) (d - lower_a) (s - lower_a) ≡ e = same_Some _ _ l.1 in
    let stands = five_stands v c r m d s (eqb-true m colon a.0) p.0 p.2 q.0 q.2 x in
    ((c - lower_a, r - lower_a, d - lower_a, s - lower_a, record { c_in = p.1; r_in = p.3; d_in = q.1; s_in = q.3; stands = inr stands }), sym is)
taken size (c ∷ r ∷ m ∷ d ∷ s ∷ y ∷ ys) v e x h = absurd cc

-- a value read as a rectangle is an entry with this rectangle
pub entry_takes : (size : Size) (v : List ℕ) (e : Rectangle) → rectangle_of_text size (trimmed v) ≡ Some e → EntryAt size v e
entry_takes size v e h = taken size (trimmed v) v e (trimmed_stands v) h

-- ---- what an entry covers

-- the column and row of a number in the rectangle lie between its sides
inside_parts : (columns : ℕ) (e : Rectangle) (q : ℕ) → in_rectangle columns e q ≡ true → (e.left ≤ q % columns) × (q % columns ≤ e.right) × (e.top ≤ q / columns) × (q / columns ≤ e.bottom)
unfolding in_rectangle
inside_parts columns e q h =
    let both = and_parts (leb e.left (q % columns) && leb (q % columns) e.right) (leb e.top (q / columns) && leb (q / columns) e.bottom) h in
    let first = and_parts (leb e.left (q % columns)) (leb (q % columns) e.right) both.0 in
    let second = and_parts (leb e.top (q / columns)) (leb (q / columns) e.bottom) both.1 in
    (leb-true _ _ first.0, leb-true _ _ first.1, leb-true _ _ second.0, leb-true _ _ second.1)

-- a number whose column and row lie between the sides is in the rectangle
inside_made : (columns : ℕ) (e : Rectangle) (x y q : ℕ) → q % columns ≡ x → q / columns ≡ y → e.left ≤ x → x ≤ e.right → e.top ≤ y → y ≤ e.bottom → in_rectangle columns e q ≡ true
unfolding in_rectangle
inside_made columns e x y q a b h k l m = rw (a, b, le-leb e.left x h, le-leb x e.right k, le-leb e.top y l, le-leb y e.bottom m) refl

-- a value covers each point of which the test says so
covers_takes : (size : Size) (v : List ℕ) (p : ℕ) → covers size v p ≡ true → Covers size v p
covers_takes size v p h =
    elim (rectangle_of_text size (trimmed v)) as (λ o. rectangle_of_text size (trimmed v) ≡ o → rectangle_covers size o p ≡ true → Covers size v p) [
      | None ↦ λ e k. absurd (let f : false ≡ true = k in cc)
      | Some e ↦ λ is k.
          let both = and_parts (ltb p (size.columns * size.rows)) (in_rectangle size.columns e p) k in
          let i = inside_parts size.columns e p both.1 in
          let t = entry_takes size v e is in
          let some = size.columns_in in
          let l = ap (λ (r : Rectangle). r.left) t.1 in
          let r = ap (λ (r : Rectangle). r.right) t.1 in
          let u = ap (λ (r : Rectangle). r.top) t.1 in
          let b = ap (λ (r : Rectangle). r.bottom) t.1 in
          record {
            corners = t.0;
            column = p % size.columns;
            row = p / size.columns;
            column_from = rw (← l) i.0;
            column_to = rw (← r) i.1;
            row_from = rw (← u) i.2;
            row_to = rw (← b) i.3;
            number = omega arith;
          }
    ] refl h

-- the test says so of each point that a value covers
covers_again : (size : Size) (v : List ℕ) (p : ℕ) → Covers size v p → covers size v p ≡ true
covers_again size v p h =
    let h4 = h.corners.4 in
    let e = entry_again size v h.corners.0 h.corners.1 h.corners.2 h.corners.3 h4 in
    let cf = h.column_from in let ct = h.column_to in let rf = h.row_from in let rt = h.row_to in
    let ci = h4.c_in in let di = h4.d_in in let ri = h4.r_in in let si = h4.s_in in
    let column_in : h.column < size.columns = omega arith in
    let row_in : h.row < size.rows = omega arith in
    let below : p < size.columns * size.rows = rw h.number (mul-add-lt h.row size.columns h.column size.rows row_in column_in) in
    let x : p % size.columns ≡ h.column = ap (λ (n : ℕ). n % size.columns) h.number ∙ mod-mul-add h.row size.columns h.column column_in in
    let y : p / size.columns ≡ h.row = ap (λ (n : ℕ). n / size.columns) h.number ∙ div-mul-add h.row size.columns h.column column_in in
    rw (e, lt-ltb p (size.columns * size.rows) below) (inside_made size.columns (rectangle_between h.corners.0 h.corners.1 h.corners.2 h.corners.3) h.column h.row p x y cf ct rf rt)

-- some value covers each point of which the test says that some does
pub any_takes : (size : Size) (vs : List (List ℕ)) (p : ℕ) → list_any (λ v. covers size v p) vs ≡ true → SomeEntryCovers size vs p
any_takes size [] p h = absurd (let f : false ≡ true = h in cc)
any_takes size (v ∷ vs) p h = elim (or_cases (covers size v p) (list_any (λ w. covers size w p) vs) h) [ inl x ↦ inl (covers_takes size v p x) | inr x ↦ inr (any_takes size vs p x) ]

-- and the test says so of each point that one of them covers
pub any_again : (size : Size) (vs : List (List ℕ)) (p : ℕ) → SomeEntryCovers size vs p → list_any (λ v. covers size v p) vs ≡ true
any_again size [] p h = absurd h
any_again size (v ∷ vs) p h = elim h [ inl x ↦ rw (covers_again size v p x) refl | inr x ↦ rw (any_again size vs p x) (or_with_true (covers size v p)) ]

-- values that all pass the test are entries
pub entries_are : (size : Size) (vs : List (List ℕ)) → list_all (is_entry size) vs ≡ true → AreEntries size vs
entries_are size [] h = tt
entries_are size (v ∷ vs) h =
    let both = and_parts (is_entry size v) (list_all (is_entry size) vs) h in (
      elim (rectangle_of_text size (trimmed v)) as (λ o. rectangle_of_text size (trimmed v) ≡ o → is_some o ≡ true → IsPointOrRectangle size v) [
        | None ↦ λ e k. absurd (let f : false ≡ true = k in cc)
        | Some e ↦ λ is k. (entry_takes size v e is).0
      ] refl both.0,
      entries_are size vs both.1,
    )

-- values are not all entries where one is read as none
pub not_entries : (size : Size) (vs : List (List ℕ)) (i : ℕ) (d : List ℕ) → i < length vs → rectangle_of_text size (trimmed (get_or vs i d)) ≡ None → AreEntries size vs → ⊥
not_entries size [] i d lt e h = absurd (omega arith)
not_entries size (v ∷ vs) zero d lt e h = absurd (let k = entry_again size v h.0.0 h.0.1 h.0.2 h.0.3 h.0.4 in cc)
not_entries size (v ∷ vs) (suc i) d lt e h = not_entries size vs i d (omega arith) e h.1

-- ---- the set as a function

and_false : (a : Bool) → (a && false) ≡ false
and_false true = refl
and_false false = refl

-- what is covered is on the board, which has `MOST_POINTS` points at most
pub covers_below : (size : Size) (v : List ℕ) (q : ℕ) → covers size v q ≡ true → q < MOST_POINTS
covers_below size v q h = elim (rectangle_of_text size (trimmed v)) as (λ o. rectangle_covers size o q ≡ true → q < MOST_POINTS) [
  | None ↦ λ k. absurd (let f : false ≡ true = k in cc)
  | Some e ↦ λ k.
      let b = ltb-true q (size.columns * size.rows) (and_parts (ltb q (size.columns * size.rows)) (in_rectangle size.columns e q) k).0 in
      omega (arith, b, mul-le size.columns size.rows 19 19 size.columns_in.1 size.rows_in.1)
] h

-- so is what one of the values covers
pub any_below : (size : Size) (vs : List (List ℕ)) (q : ℕ) → list_any (λ v. covers size v q) vs ≡ true → q < MOST_POINTS
any_below size [] q h = absurd (let f : false ≡ true = h in cc)
any_below size (v ∷ vs) q h = elim (or_cases (covers size v q) (list_any (λ w. covers size w q) vs) h) [ inl x ↦ covers_below size v q x | inr x ↦ any_below size vs q x ]

-- where all are entries, the set of what the values cover is the set of the values
pub set_some : (size : Size) (vs : List (List ℕ)) (s : set.FinSet nat_cmp) → ((q : ℕ) → set.contains s q ≡ list_any (λ v. covers size v q) vs) → list_all (is_entry size) vs ≡ true
    → set_of size vs ≡ Some s
unfolding set_of
set_some size vs s h all =
    let same : passing (λ q. list_any (λ v. covers size v q) vs) MOST_POINTS ≡ s = set.same_set nat_cmp_total set.nat_cmp-IsAntisymmetric _ _
    (λ q. contains-passing (λ p. list_any (λ v. covers size v p) vs) MOST_POINTS q ∙ elim (cases_Bool (list_any (λ v. covers size v q) vs)) [
      | inl b ↦ rw (b, lt-ltb q MOST_POINTS (any_below size vs q b)) (sym (h q ∙ b))
      | inr b ↦ rw (b) (and_false (ltb q MOST_POINTS) ∙ sym (h q ∙ b))
    ]) in
    rw (all) (ap (λ (x : set.FinSet nat_cmp). Some x) same)

-- values of which one is no entry have no set
pub set_none : (size : Size) (vs : List (List ℕ)) (i : ℕ) (d : List ℕ) → i < length vs → rectangle_of_text size (trimmed (get_or vs i d)) ≡ None → set_of size vs ≡ None
unfolding set_of
set_none size vs i d lt e = elim (cases_Bool (list_all (is_entry size) vs)) [
  | inl all ↦ absurd (not_entries size vs i d lt e (entries_are size vs all))
  | inr not_all ↦ rw not_all refl
]
