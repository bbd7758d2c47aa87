-- What a play does, by the counts before it.
use Rattle.std.proofs.Common.{◌≡◌, ◌≢◌, ℕ, ◌/◌, ◌%◌, ◌<◌, ◌≤◌, ◌⊎◌, ◌↔◌, List, Option, Some, None, Bool, true, false, IsTrue, cond, get_or}
use Rattle.std.proofs.Common.{set, map, length, Contains}
use Rattle.std.proofs.Common.{inl, inr, refl, sym, ap, subst, ◌∙◌, arith}
use Rattle.std.specs.List.{range_with_len}
use Rattle.std.proofs.lemmas.Bool.{cases_eq, cases_lt, false≢true, and_from, and_parts, eq-eqb, eqb-true}
use Rattle.std.proofs.lemmas.Option.{none-some}
use Rattle.std.proofs.lemmas.List.{length-set, get_or-set_same, get_or-set_other, get_or_past, ext_get_or}
use Rattle.std.proofs.lemmas.List.Elements.{Contains-get_or}
use Rattle.std.proofs.lemmas.List.FromFn.{get_or-map-range_with_len, length-map-range_with_len}
use Rattle.tt_board.specs.declared.Colour.{Colour}
use Rattle.tt_board.specs.declared.Colour.TheVariants.{Black, White}
use Rattle.tt_sgf.specs.declared.size.Size.{Size}
use Rattle.tt_sgf.specs.Sizes.{point_count}
use Rattle.tt_board.specs.declared.counted.play_kind.NeighbourNames.{NeighbourNames}
use Rattle.tt_board.specs.Near.{IsNeighbour}
use Rattle.tt_board.specs.Position.{Colouring}
use Rattle.tt_board.specs.Reach.{entry_at, Reaches}
use Rattle.tt_board.specs.ReachLaws.{reaches_beside, reaches_on, reaches_all}
use Rattle.tt_board.specs.Decided.{decision_test, decision_test_is_exact, decision_test_is_false}
use Rattle.tt_board.specs.Play.{other, play_of}
use Rattle.tt_board.specs.inside.Chains.{name_at, root_of, colour_number, IsNamed, Touches, touching, is_liberty, liberty_count, ChainBoard, IsChainBoard, IsEachOnce, IsOneName, AreNear}
use Rattle.tt_board.proofs.CountLemmas.{count_some, another_counted, two_counted, in_list}
use Rattle.tt_board.proofs.LinkLemmas.{linked_kept, reaches_linked, named_bare, bare_named, named_stone, stone_named, one_name}
use Rattle.tt_board.proofs.LiftLemmas.{IsLifted, lifted_none, play_is}
use Rattle.tt_board.specs.laws.NearLaws.{near_back}
use Rattle.tt_board.specs.laws.ClearLaws.{other_differs}
use Rattle.tt_board.proofs.PlayKindLemmas.{coded}

-- whole chains of colour k that no empty point is beside are lifted
pub lifted_set : (s : Size) (c d : Colouring) (k : Colour) (In : ℕ → Type 0) → length d ≡ point_count s
    → ((q : ℕ) → (entry_at d q ≡ entry_at c q) ⊎ (In q × (entry_at d q ≡ None)))
    → ((q : ℕ) → In q → (entry_at d q ≡ None) × (entry_at c q ≡ Some k) × (q < point_count s))
    → ((x q : ℕ) → In x → IsNeighbour s x q → (entry_at c q ≢ None) × (entry_at c q ≡ Some k → In q)) → IsLifted s c k d
lifted_set s c d k In fits each gone enclosed = record {
  fits = fits;
  each = λ p. elim (each p) [
    | inl same ↦ inl same
    | inr h ↦ inr (h.1, (gone p h.0).1, dead p h.0)
  ];
  whole = λ p q near mine also bare. elim (each p) [
    | inl same ↦ absurd (none-some k (sym bare ∙ same ∙ mine))
    | inr h ↦ (gone q ((enclosed p q h.0 near).1 also)).0
  ];
}
  where
    dead : (p : ℕ) → In p → Reaches s c p None → ⊥
    dead p here r = reaches_all s c None (λ x. In x → ⊥)
        (λ x q in_x not_e near has inside. (enclosed x q inside near).0 has)
        (λ x q in_x not_e near same later inside. later ((enclosed x q inside near).1 (same ∙ (gone x inside).1)))
        p r.path (gone p here).2 r.adjacent r.alike r.other r.found r.beside r.has_entry here

-- a neighbour is another point
near_other : (s : Size) (p q : ℕ) → IsNeighbour s p q → q ≢ p
near_other s p q (in_q, inl (row, step)) same = let e = ap (λ x. x % s.columns) same in elim step [ inl h ↦ omega (arith, e, h) | inr h ↦ omega (arith, e, h) ]
near_other s p q (in_q, inr (column, step)) same = let e = ap (λ x. x / s.columns) same in elim step [ inl h ↦ omega (arith, e, h) | inr h ↦ omega (arith, e, h) ]

-- a code is of one colour
pub code_colour : (e : Option Colour) (n : ℕ) (k : Colour) → IsNamed e n → n / 512 ≡ colour_number k → e ≡ Some k
code_colour None n Black h code = absurd (omega arith)
code_colour None n White h code = absurd (omega arith)
code_colour (Some Black) n Black h code = refl
code_colour (Some White) n White h code = refl
code_colour (Some Black) n White h code = absurd (omega arith)
code_colour (Some White) n Black h code = absurd (omega arith)

-- and a stone of a colour has that colour in its name
pub colour_code : (e : Option Colour) (n : ℕ) (k : Colour) → IsNamed e n → e ≡ Some k → n / 512 ≡ colour_number k
colour_code e n k h is = subst (λ x. IsNamed x n) is h

-- a colouring in which some points are bare
pub emptied : Size → (ℕ → Bool) → Colouring → Colouring
emptied s test c = map (λ q. cond (test q) None (entry_at c q)) (range_with_len 0 (point_count s))

-- it has as many points, the ones meant are bare, and the others as they were
length-emptied : (s : Size) (test : ℕ → Bool) (c : Colouring) → length (emptied s test c) ≡ point_count s
unfolding emptied
length-emptied s test c = length-map-range_with_len (λ q. cond (test q) None (entry_at c q)) 0 (point_count s)

emptied_gone : (s : Size) (test : ℕ → Bool) (c : Colouring) (q : ℕ) → test q ≡ true → entry_at (emptied s test c) q ≡ None
unfolding emptied
emptied_gone s test c q on = elim (cases_lt q (point_count s)) [
  | inl below ↦ get_or-map-range_with_len (λ x. cond (test x) None (entry_at c x)) 0 (point_count s) q q None below (omega arith) ∙ ap (λ b. cond b None (entry_at c q)) on
  | inr past ↦ get_or_past (emptied s test c) q None (subst (λ n. n ≤ q) (sym (length-emptied s test c)) past)
]

emptied_kept : (s : Size) (test : ℕ → Bool) (c : Colouring) (q : ℕ) → length c ≡ point_count s → test q ≡ false → entry_at (emptied s test c) q ≡ entry_at c q
unfolding emptied
emptied_kept s test c q fits off = elim (cases_lt q (point_count s)) [
  | inl below ↦ get_or-map-range_with_len (λ x. cond (test x) None (entry_at c x)) 0 (point_count s) q q None below (omega arith) ∙ ap (λ b. cond b None (entry_at c q)) off
  | inr past ↦ get_or_past (emptied s test c) q None (subst (λ n. n ≤ q) (sym (length-emptied s test c)) past) ∙ sym (get_or_past c q None (subst (λ n. n ≤ q) (sym fits) past))
]

-- what a play of colour k on p does: the chains that go, and whether it is suicide
pub record IsLook (b : ChainBoard) (k : Colour) (p : ℕ) (chains : List ℕ) (ends : Bool) : Type 0 where
  pub goes : (q : ℕ) → entry_at b.points q ≢ None → (entry_at (play_of b.size b.points k p) q ≡ None) ↔ Contains chains (name_at b.counts.names q)
  pub suicide : IsTrue ends ↔ (entry_at (play_of b.size b.points k p) p ≡ None)
  pub once : IsEachOnce chains
  pub living : (m : ℕ) → Contains chains m → (m ≢ 0) × (name_at b.counts.names (root_of m) ≡ m)

module _ (b : ChainBoard) (k : Colour) (p : ℕ) (is : IsChainBoard b) (in_p : p < point_count b.size) (free : entry_at b.points p ≡ None) where
  -- the stone stands on p, and all else is as it was
  here : entry_at (set b.points p (Some k)) p ≡ Some k
  here = get_or-set_same b.points p (Some k) None (subst (λ n. p < n) (sym is.fits) in_p)

  off : (q : ℕ) → q ≢ p → entry_at (set b.points p (Some k)) q ≡ entry_at b.points q
  off q apart = get_or-set_other b.points p q (Some k) None apart

  bare_p : name_at b.counts.names p ≡ 0
  bare_p = named_bare _ _ (is.named.named p) free

  -- a stone isn't on p
  elsewhere : (q : ℕ) → entry_at b.points q ≢ None → q ≢ p
  elsewhere q stone same = stone (ap (entry_at b.points) same ∙ free)

  -- a stone is on the board
  on_board : (q : ℕ) → entry_at b.points q ≢ None → q < point_count b.size
  on_board q stone = elim (cases_lt q (point_count b.size)) [
    | inl below ↦ below
    | inr past ↦ absurd (stone (get_or_past b.points q None (subst (λ n. n ≤ q) (sym is.fits) past)))
  ]

  named_here : (q : ℕ) → name_at b.counts.names q ≢ 0 → entry_at b.points q ≢ None
  named_here q some = stone_named _ _ (is.named.named q) some

  -- p is a liberty of each chain beside it
  liberty_p : (m : ℕ) → Touches b.size b.counts.names m p → is_liberty b.size b.counts.names m p ≡ true
  liberty_p m t = and_from _ _ (eq-eqb (name_at b.counts.names p) 0 bare_p) ((decision_test_is_exact (touching b.size b.counts.names m p)).1 t)

  -- where p is a chain's one liberty, no other point beside it is empty
  one_liberty : (m x q : ℕ) → Touches b.size b.counts.names m p → liberty_count b.size b.counts.names m ≡ 1 → m ≢ 0
      → name_at b.counts.names x ≡ m → IsNeighbour b.size x q → q ≢ p → entry_at b.points q ≢ None
  unfolding liberty_count
  one_liberty m x q t one some of near apart bare =
      let in_x = on_board x (named_here x (λ z. some (sym of ∙ z))) in
      let also : is_liberty b.size b.counts.names m q ≡ true = and_from _ _ (eq-eqb (name_at b.counts.names q) 0 (named_bare _ _ (is.named.named q) bare))
      ((decision_test_is_exact (touching b.size b.counts.names m q)).1 (x, in_x, (near_back b.size x q in_x near, of))) in
      let two = two_counted (is_liberty b.size b.counts.names m) (point_count b.size) p q in_p near.0 apart (liberty_p m t) also in
      omega (arith, one, two)

  -- a chain beside p has p as a liberty
  some_liberty : (m : ℕ) → Touches b.size b.counts.names m p → 0 < liberty_count b.size b.counts.names m
  unfolding liberty_count
  some_liberty m t = count_some (is_liberty b.size b.counts.names m) (point_count b.size) p in_p (liberty_p m t)

  -- where it has more than that one it reaches empty with the stone put
  more_liberties : (m x : ℕ) → Touches b.size b.counts.names m p → liberty_count b.size b.counts.names m ≢ 1 → m ≢ 0 → name_at b.counts.names x ≡ m → Reaches b.size (set b.points p (Some k)) x None
  unfolding liberty_count
  more_liberties m x t several some of =
      let least = some_liberty m t in
      let f = another_counted (is_liberty b.size b.counts.names m) (point_count b.size) p (omega (arith, least, several)) in
      let parts = and_parts _ _ f.2 in
      let r = (decision_test_is_exact (touching b.size b.counts.names m f.0)).0 parts.1 in
      let bare = bare_named _ _ (is.named.named f.0) (eqb-true (name_at b.counts.names f.0) 0 parts.0) in
      let stone_x = named_here x (λ z. some (sym of ∙ z)) in
      let stone_r = named_here r.0 (λ z. some (sym r.2.1 ∙ z)) in
      let link = (is.named.linked x r.0 (on_board x stone_x) r.1 stone_x stone_r).0 (of ∙ sym r.2.1) in
      let link' = linked_kept b.size b.points (set b.points p (Some k)) (λ z. entry_at b.points z ≢ None) (λ z w in_z stone near alike none. stone (sym alike ∙ none))
      (λ z in_z stone. off z (elsewhere z stone)) x r.0 (on_board x stone_x) stone_x link in
      reaches_linked b.size (set b.points p (Some k)) x r.0 None link'
      (reaches_beside b.size (set b.points p (Some k)) None r.0 f.0 (λ none. stone_r (sym (off r.0 (elsewhere r.0 stone_r)) ∙ none)) (near_back b.size f.0 r.0 f.1 r.2.0) (off f.0 f.3 ∙ bare))

  -- the count of a living chain, at its root
  counted_at : (m x : ℕ) → m ≢ 0 → name_at b.counts.names x ≡ m → name_at b.counts.liberties (root_of m) ≡ liberty_count b.size b.counts.names m
  counted_at m x some of = subst (λ y. name_at b.counts.liberties (root_of y) ≡ liberty_count b.size b.counts.names y) of (is.counted.liberties_true x (λ z. some (sym of ∙ z)))

  -- where no chain of the opponent's beside p has one liberty
  module _ (strong : (m : ℕ) → Touches b.size b.counts.names m p → m / 512 ≡ colour_number (other k) → name_at b.counts.liberties (root_of m) ≢ 1) where
    -- each of the opponent's stones beside p reaches empty with the stone put
    theirs_reach : (q : ℕ) → IsNeighbour b.size p q → entry_at (set b.points p (Some k)) q ≡ Some (other k) → Reaches b.size (set b.points p (Some k)) q None
    theirs_reach q near' theirs =
        let apart = near_other b.size p q near' in
        let mine : entry_at b.points q ≡ Some (other k) = sym (off q apart) ∙ theirs in
        let m = name_at b.counts.names q in
        let some = named_stone _ _ (is.named.named q) (λ bare. none-some (other k) (sym bare ∙ mine)) in
        let touch : Touches b.size b.counts.names m p = (q, near'.0, (near', refl)) in
        more_liberties m q touch (λ e. strong m touch (colour_code _ _ (other k) (is.named.named q) mine) (counted_at m q some refl ∙ e)) some refl

    -- and a point beside p is empty or an own chain there has several: the stone is put and nothing goes
    module _ (n : ℕ) (t : Touches b.size b.counts.names n p) (way : (n ≡ 0) ⊎ ((n / 512 ≡ colour_number k) × (name_at b.counts.liberties (root_of n) ≢ 1))) where
      -- the stone reaches empty by that point or chain
      own_reaches : Reaches b.size (set b.points p (Some k)) p None
      own_reaches = elim way [
        | inl zero ↦ reaches_beside b.size (set b.points p (Some k)) None p t.0 (λ none. none-some k (sym none ∙ here)) t.2.0
            (off t.0 (near_other b.size p t.0 t.2.0) ∙ bare_named _ _ (is.named.named t.0) (t.2.1 ∙ zero))
        | inr h ↦
            let mine : entry_at b.points t.0 ≡ Some k = code_colour _ _ k (is.named.named t.0) (ap (λ x. x / 512) t.2.1 ∙ h.0) in
            let some : n ≢ 0 = λ z. named_stone _ _ (is.named.named t.0) (λ bare. none-some k (sym bare ∙ mine)) (t.2.1 ∙ z) in
            reaches_on b.size (set b.points p (Some k)) None p t.0 t.2.0 (off t.0 (near_other b.size p t.0 t.2.0) ∙ mine ∙ sym here)
            (more_liberties n t.0 t (λ e. h.1 (counted_at n t.0 some t.2.1 ∙ e)) some t.2.1)
      ]

      pub put_no_capture : play_of b.size b.points k p ≡ set b.points p (Some k)
      put_no_capture =
          let fits = length-set b.points p (Some k) ∙ is.fits in
          sym (play_is b.size b.points k p is.fits in_p is.alive free (set b.points p (Some k)) (set b.points p (Some k))
          (lifted_none b.size (set b.points p (Some k)) (other k) fits) (λ q near' theirs. inl (theirs_reach q near' theirs))
          (lifted_none b.size (set b.points p (Some k)) k fits) (λ _. inl own_reaches))

    -- and only stones of the opponent's are beside p: the stone goes at once, alone
    pub put_single_suicide : ((q : ℕ) → IsNeighbour b.size p q → (entry_at b.points q ≢ None) × (entry_at b.points q ≢ Some k)) → play_of b.size b.points k p ≡ b.points
    put_single_suicide closed =
        let put = set b.points p (Some k) in
        let alone : IsLifted b.size put k b.points = lifted_set b.size put b.points k (λ q. q ≡ p) is.fits
        (λ q. elim (cases_eq q p) [
          | inl same ↦ inr (same, ap (entry_at b.points) same ∙ free)
          | inr apart ↦ inl (sym (off q apart))
        ])
        (λ q same. (ap (entry_at b.points) same ∙ free, ap (entry_at put) same ∙ here, subst (λ x. x < point_count b.size) (sym same) in_p))
        (λ x q same near'.
        let n = subst (λ y. IsNeighbour b.size y q) same near' in
        let apart = near_other b.size p q n in
        let h = closed q n in
        ((λ none. h.0 (sym (off q apart) ∙ none)), (λ mine. absurd (h.1 (sym (off q apart) ∙ mine))))) in
        sym (play_is b.size b.points k p is.fits in_p is.alive free put b.points
        (lifted_none b.size put (other k) (length-set b.points p (Some k) ∙ is.fits)) (λ q near' theirs. inl (theirs_reach q near' theirs)) alone (λ _. inr free))

  module _ (Near : ℕ → Type 0) (weak : List ℕ) (all : (m : ℕ) → Near m ↔ ((m ≢ 0) × (m ≢ 0) × Touches b.size b.counts.names m p))
      (last : (m : ℕ) → Contains weak m ↔ (Near m × (m / 512 ≡ colour_number (other k)) × (name_at b.counts.liberties (root_of m) ≡ 1))) where
    -- the opponent's chains that go
    weak_is : (m : ℕ) → Contains weak m → (m ≢ 0) × Touches b.size b.counts.names m p × (m / 512 ≡ colour_number (other k)) × (liberty_count b.size b.counts.names m ≡ 1)
    weak_is m has =
        let h = (last m).0 has in let t = (all m).0 h.0 in
        (t.0, t.2, h.1, sym (counted_at m t.2.0 t.0 t.2.2.1) ∙ h.2)

    -- the board with the stone, and without these
    abbrev taken : Colouring
    taken = emptied b.size (λ q. decision_test (in_list weak (name_at b.counts.names q))) (set b.points p (Some k))

    put_fits : length (set b.points p (Some k)) ≡ point_count b.size
    put_fits = length-set b.points p (Some k) ∙ is.fits

    taken_gone : (q : ℕ) → Contains weak (name_at b.counts.names q) → entry_at taken q ≡ None
    taken_gone q has = emptied_gone b.size _ (set b.points p (Some k)) q ((decision_test_is_exact (in_list weak (name_at b.counts.names q))).1 has)

    taken_kept : (q : ℕ) → (Contains weak (name_at b.counts.names q) → ⊥) → entry_at taken q ≡ entry_at (set b.points p (Some k)) q
    taken_kept q none = emptied_kept b.size _ (set b.points p (Some k)) q put_fits (decision_test_is_false (in_list weak (name_at b.counts.names q)) none)

    -- a stone of a chain that goes
    weak_stone : (q : ℕ) → Contains weak (name_at b.counts.names q) → (entry_at b.points q ≡ Some (other k)) × (q ≢ p)
    weak_stone q has =
        let w = weak_is (name_at b.counts.names q) has in
        let stone = named_here q w.0 in
        (code_colour _ _ (other k) (is.named.named q) w.2, elsewhere q stone)

    -- they are whole chains of the opponent that no empty point is beside
    first : IsLifted b.size (set b.points p (Some k)) (other k) taken
    first = lifted_set b.size (set b.points p (Some k)) taken (other k) (λ q. Contains weak (name_at b.counts.names q)) (length-emptied b.size _ (set b.points p (Some k)))
        (λ q. elim (in_list weak (name_at b.counts.names q)) [ inl has ↦ inr (has, taken_gone q has) | inr none ↦ inl (taken_kept q none) ])
        (λ q has. let w = weak_stone q has in (taken_gone q has, off q w.1 ∙ w.0, on_board q (named_here q (weak_is _ has).0)))
        (λ x q has near'. let w = weak_is _ has in let x_is = weak_stone x has in (
          λ bare. elim (cases_eq q p) [
            | inl same ↦ none-some k (sym bare ∙ ap (entry_at (set b.points p (Some k))) same ∙ here)
            | inr apart ↦ one_liberty (name_at b.counts.names x) x q w.1 w.3 w.0 refl near' apart (sym (off q apart) ∙ bare)
          ],
          λ theirs. elim (cases_eq q p) [
            | inl same ↦ absurd (other_differs k (sym here ∙ ap (entry_at (set b.points p (Some k))) (sym same) ∙ theirs))
            | inr apart ↦ subst (Contains weak) (one_name b.size b.points b.counts.names is.named x q (on_board x (named_here x w.0)) near' (named_here x w.0)
                (sym (off q apart) ∙ theirs ∙ sym x_is.0)) has
          ],
        ))

    -- each other chain of the opponent beside p reaches empty
    looked : (q : ℕ) → IsNeighbour b.size p q → entry_at (set b.points p (Some k)) q ≡ Some (other k) → Reaches b.size (set b.points p (Some k)) q None ⊎ (entry_at taken q ≡ None)
    looked q near' theirs = elim (cases_eq q p) [
      | inl same ↦ absurd (other_differs k (sym here ∙ ap (entry_at (set b.points p (Some k))) (sym same) ∙ theirs))
      | inr apart ↦
          let mine : entry_at b.points q ≡ Some (other k) = sym (off q apart) ∙ theirs in
          let m = name_at b.counts.names q in
          let some = named_stone _ _ (is.named.named q) (λ bare. none-some (other k) (sym bare ∙ mine)) in
          let t : Touches b.size b.counts.names m p = (q, near'.0, (near', refl)) in
          elim (cases_eq (name_at b.counts.liberties (root_of m)) 1) [
            | inl one ↦ inr (taken_gone q ((last m).1 ((all m).1 (some, some, t), colour_code _ _ (other k) (is.named.named q) mine, one)))
            | inr several ↦ inl (more_liberties m q t (λ e. several (counted_at m q some refl ∙ e)) some refl)
          ]
    ]

    here_taken : entry_at taken p ≡ Some k
    here_taken = taken_kept p (λ has. (weak_is _ has).0 bare_p) ∙ here

    -- where the stone reaches empty then, the play takes these chains and no more
    pub no_capture : Reaches b.size taken p None → taken ≡ play_of b.size b.points k p
    no_capture own = play_is b.size b.points k p is.fits in_p is.alive free taken taken first looked (lifted_none b.size taken k first.fits) (λ _. inl own)

    -- a captured stone beside it is such an empty point
    pub own_by_capture : (i : ℕ) → i < length weak → Reaches b.size taken p None
    own_by_capture i in' =
        let has = Contains-get_or weak i 0 in' in
        let w = weak_is (get_or weak i 0) has in
        reaches_beside b.size taken None p w.1.0 (λ none. none-some k (sym none ∙ here_taken)) w.1.2.0 (taken_gone w.1.0 (subst (Contains weak) (sym w.1.2.1) has))

    -- so is one that was empty
    pub own_by_empty : (q : ℕ) → IsNeighbour b.size p q → entry_at b.points q ≡ None → Reaches b.size taken p None
    own_by_empty q near' bare =
        let apart = near_other b.size p q near' in
        reaches_beside b.size taken None p q (λ none. none-some k (sym none ∙ here_taken)) near'
        (taken_kept q (λ has. (weak_is _ has).0 (named_bare _ _ (is.named.named q) bare)) ∙ off q apart ∙ bare)

    -- so is one that an own chain reaches, where none is captured
    pub own_by_chain : ((m : ℕ) → Contains weak m → ⊥) → (m : ℕ) → Near m → m / 512 ≡ colour_number k → name_at b.counts.liberties (root_of m) ≢ 1 → Reaches b.size taken p None
    own_by_chain nobody m has code several =
        let h = (all m).0 has in
        let r = h.2.0 in
        let mine : entry_at b.points r ≡ Some k = code_colour _ _ k (is.named.named r) (ap (λ x. x / 512) h.2.2.1 ∙ code) in
        let apart : r ≢ p = elsewhere r (λ bare. none-some k (sym bare ∙ mine)) in
        let reach = more_liberties m r h.2 (λ e. several (counted_at m r h.0 h.2.2.1 ∙ e)) h.0 h.2.2.1 in
        let same : taken ≡ set b.points p (Some k) = ext_get_or None taken (set b.points p (Some k)) (length-emptied b.size _ (set b.points p (Some k)) ∙ sym put_fits)
        (λ q below. taken_kept q (nobody _)) in
        subst (λ xs. Reaches b.size xs p None) (sym same)
        (reaches_on b.size (set b.points p (Some k)) None p r h.2.2.0 (off r apart ∙ mine ∙ sym here) reach)

    -- what the play leaves, by the names
    pub no_capture_goes : taken ≡ play_of b.size b.points k p → (q : ℕ) → entry_at b.points q ≢ None → (entry_at (play_of b.size b.points k p) q ≡ None) ↔ Contains weak (name_at b.counts.names q)
    no_capture_goes same q stone = (
      λ bare. elim (in_list weak (name_at b.counts.names q)) [
        | inl has ↦ has
        | inr none ↦ absurd (stone (sym (off q (elsewhere q stone)) ∙ sym (taken_kept q none) ∙ ap (λ xs. entry_at xs q) same ∙ bare))
      ],
      λ has. ap (λ xs. entry_at xs q) (sym same) ∙ taken_gone q has,
    )

    -- and the stone stays
    pub no_capture_stays : taken ≡ play_of b.size b.points k p → entry_at (play_of b.size b.points k p) p ≢ None
    no_capture_stays same bare = none-some k (sym bare ∙ ap (λ xs. entry_at xs p) (sym same) ∙ here_taken)

    -- a chain that goes is living
    pub weak_living : (m : ℕ) → Contains weak m → (m ≢ 0) × (name_at b.counts.names (root_of m) ≡ m)
    weak_living m has =
        let w = weak_is m has in
        (w.0, subst (λ x. name_at b.counts.names (root_of x) ≡ x) w.1.2.1 (is.counted.rooted w.1.0 (λ z. w.0 (sym w.1.2.1 ∙ z))))

    -- so the names tell what the play does
    pub no_capture_look : IsEachOnce weak → Reaches b.size taken p None → IsLook b k p weak false
    no_capture_look once own =
        let same = no_capture own in
        record {
          goes = no_capture_goes same;
          suicide = (λ h. absurd (false≢true h), λ bare. absurd (no_capture_stays same bare));
          once = once;
          living = weak_living;
        }

    -- ---- suicide: none of the opponent's goes, no point beside p is empty, and p is the one liberty of each own chain beside it
    module _ (mine : List ℕ) (last_mine : (m : ℕ) → Contains mine m ↔ (Near m × (m / 512 ≡ colour_number k) × (name_at b.counts.liberties (root_of m) ≡ 1)))
        (nobody : (m : ℕ) → Contains weak m → ⊥) (filled : (q : ℕ) → IsNeighbour b.size p q → entry_at b.points q ≢ None)
        (none_more : (m : ℕ) → Near m → m / 512 ≡ colour_number k → name_at b.counts.liberties (root_of m) ≡ 1) where
      -- one's own chains that go
      mine_is : (m : ℕ) → Contains mine m → (m ≢ 0) × Touches b.size b.counts.names m p × (m / 512 ≡ colour_number k) × (liberty_count b.size b.counts.names m ≡ 1)
      mine_is m has =
          let h = (last_mine m).0 has in let t = (all m).0 h.0 in
          (t.0, t.2, h.1, sym (counted_at m t.2.0 t.0 t.2.2.1) ∙ h.2)

      -- the board without these, and without the stone
      abbrev left : Colouring
      left = emptied b.size (λ q. decision_test (in_list mine (name_at b.counts.names q))) b.points

      left_gone : (q : ℕ) → Contains mine (name_at b.counts.names q) → entry_at left q ≡ None
      left_gone q has = emptied_gone b.size _ b.points q ((decision_test_is_exact (in_list mine (name_at b.counts.names q))).1 has)

      left_kept : (q : ℕ) → (Contains mine (name_at b.counts.names q) → ⊥) → entry_at left q ≡ entry_at b.points q
      left_kept q none = emptied_kept b.size _ b.points q is.fits (decision_test_is_false (in_list mine (name_at b.counts.names q)) none)

      left_p : entry_at left p ≡ None
      left_p = left_kept p (λ has. (mine_is _ has).0 bare_p) ∙ free

      -- the stone, and the stones of these chains
      abbrev Goes : ℕ → Type 0
      Goes q = (q ≡ p) ⊎ Contains mine (name_at b.counts.names q)

      -- a stone of a chain that goes is an own one
      own_stone : (q : ℕ) → Contains mine (name_at b.counts.names q) → (entry_at b.points q ≡ Some k) × (q ≢ p)
      own_stone q has =
          let w = mine_is (name_at b.counts.names q) has in
          (code_colour _ _ k (is.named.named q) w.2, elsewhere q (named_here q w.0))

      -- an own stone beside the new one is of a chain that goes
      beside_goes : (q : ℕ) → IsNeighbour b.size p q → entry_at b.points q ≡ Some k → Contains mine (name_at b.counts.names q)
      beside_goes q near' own =
          let some = named_stone _ _ (is.named.named q) (λ bare. none-some k (sym bare ∙ own)) in
          let has = (all (name_at b.counts.names q)).1 (some, some, (q, near'.0, (near', refl))) in
          let code = colour_code _ _ k (is.named.named q) own in
          (last_mine (name_at b.counts.names q)).1 (has, code, none_more (name_at b.counts.names q) has code)

      -- no empty point is beside those that go, and an own stone beside one of them goes too
      enclosed : (x q : ℕ) → Goes x → IsNeighbour b.size x q → (entry_at (set b.points p (Some k)) q ≢ None) × (entry_at (set b.points p (Some k)) q ≡ Some k → Goes q)
      enclosed x q (inl at) near' =
          let beside = subst (λ z. IsNeighbour b.size z q) at near' in (
            λ bare. elim (cases_eq q p) [
              | inl same ↦ none-some k (sym bare ∙ ap (entry_at (set b.points p (Some k))) same ∙ here)
              | inr apart ↦ filled q beside (sym (off q apart) ∙ bare)
            ],
            λ own. elim (cases_eq q p) [ inl same ↦ inl same | inr apart ↦ inr (beside_goes q beside (sym (off q apart) ∙ own)) ],
          )
      enclosed x q (inr has) near' =
          let w = mine_is _ has in let x_is = own_stone x has in (
            λ bare. elim (cases_eq q p) [
              | inl same ↦ none-some k (sym bare ∙ ap (entry_at (set b.points p (Some k))) same ∙ here)
              | inr apart ↦ one_liberty (name_at b.counts.names x) x q w.1 w.3 w.0 refl near' apart (sym (off q apart) ∙ bare)
            ],
            λ own. elim (cases_eq q p) [
              | inl same ↦ inl same
              | inr apart ↦ inr (subst (Contains mine) (one_name b.size b.points b.counts.names is.named x q (on_board x (named_here x w.0)) near' (named_here x w.0)
                  (sym (off q apart) ∙ own ∙ sym x_is.0)) has)
            ],
          )

      -- so they are whole chains without liberties
      second : IsLifted b.size (set b.points p (Some k)) k left
      second = lifted_set b.size (set b.points p (Some k)) left k Goes (length-emptied b.size _ b.points)
          (λ q. elim (cases_eq q p) [
            | inl same ↦ inr (inl same, ap (entry_at left) same ∙ left_p)
            | inr apart ↦ elim (in_list mine (name_at b.counts.names q)) [ inl has ↦ inr (inr has, left_gone q has) | inr none ↦ inl (left_kept q none ∙ sym (off q apart)) ]
          ])
          (λ q goes. elim goes [
            | inl same ↦ (ap (entry_at left) same ∙ left_p, ap (entry_at (set b.points p (Some k))) same ∙ here, subst (λ z. z < point_count b.size) (sym same) in_p)
            | inr has ↦ let w = own_stone q has in (left_gone q has, off q w.1 ∙ w.0, on_board q (named_here q (mine_is _ has).0))
          ])
          enclosed

      -- all of the opponent's chains beside it have another liberty
      stay : (q : ℕ) → IsNeighbour b.size p q → entry_at (set b.points p (Some k)) q ≡ Some (other k)
          → Reaches b.size (set b.points p (Some k)) q None ⊎ (entry_at (set b.points p (Some k)) q ≡ None)
      stay q near' theirs = elim (looked q near' theirs) [
        | inl r ↦ inl r
        | inr gone ↦ elim (in_list weak (name_at b.counts.names q)) [
          | inl has ↦ absurd (nobody _ has)
          | inr none ↦ inr (sym (taken_kept q none) ∙ gone)
        ]
      ]

      -- they are all that goes
      left_is : left ≡ play_of b.size b.points k p
      left_is = play_is b.size b.points k p is.fits in_p is.alive free (set b.points p (Some k)) left
          (lifted_none b.size (set b.points p (Some k)) (other k) put_fits) stay second (λ _. inr left_p)

      pub suicide_look : IsEachOnce mine → IsLook b k p mine true
      suicide_look once = record {
        goes = λ q stone. (
          λ bare. elim (in_list mine (name_at b.counts.names q)) [
            | inl has ↦ has
            | inr none ↦ absurd (stone (sym (left_kept q none) ∙ ap (λ xs. entry_at xs q) left_is ∙ bare))
          ],
          λ has. ap (λ xs. entry_at xs q) (sym left_is) ∙ left_gone q has,
        );
        suicide = (λ _. ap (λ xs. entry_at xs p) (sym left_is) ∙ left_p, λ _. refl);
        once = once;
        living = λ m has. let w = mine_is m has in
            (w.0, subst (λ x. name_at b.counts.names (root_of x) ≡ x) w.1.2.1 (is.counted.rooted w.1.0 (λ z. w.0 (sym w.1.2.1 ∙ z))));
      }

-- ---- four names

-- a chain of a colour is one of the names beside p exactly where one of its stones is beside p
pub one_beside : (s : Size) (ns : List ℕ) (p : ℕ) (near : NeighbourNames) (k : Colour) (Q : ℕ → Type 0) → AreNear s ns p near
    → (m : ℕ) → (IsOneName near.above near.left near.right near.below m × (m / 512 ≡ colour_number k) × Q m)
    ↔ (((m ≢ 0) × (m ≢ 0) × Touches s ns m p) × (m / 512 ≡ colour_number k) × Q m)
one_beside s ns p near k Q at m = (
  λ h. let some = code_some m k h.1 in ((some, some, (at.touching m (coded m k h.1)).0 h.0), h.1, h.2),
  λ h. ((at.touching m (coded m k h.1)).1 h.0.2, h.1, h.2),
)
  where
    code_some : (n : ℕ) (j : Colour) → n / 512 ≡ colour_number j → n ≢ 0
    code_some n Black code zero = omega (arith, code, zero)
    code_some n White code zero = omega (arith, code, zero)
