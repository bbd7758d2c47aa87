-- Chains that become one: names, stones and liberties.
use Rattle.std.proofs.Common.{◌≡◌, ◌≢◌, ℕ, suc, ◌+◌, ◌/◌, ◌<◌, ◌≤◌, ◌⊎◌, ◌&&◌, List, [], ◌∷◌, Option, Some, None, cond, eqb, get_or, set, map, length, inl, inr, refl, sym, ap, subst, ◌∙◌, arith}
use Rattle.std.proofs.Math.ListN as math
use Rattle.std.proofs.lemmas.Bool.{cases_eq, cases_lt, eq-eqb, ne_eqb}
use Rattle.std.proofs.lemmas.List.{length-set, length-map, get_or-set_same, get_or-set_other, get_or_past, ext_get_or}
use Rattle.std.proofs.lemmas.List.Sums.{count_by-le-length, sum_by-set, sum_by-cons}
use Rattle.tt_board.specs.declared.Colour.{Colour}
use Rattle.tt_board.specs.declared.Colour.TheVariants.{Black, White}
use Rattle.tt_sgf.specs.declared.size.Size.{Size}
use Rattle.tt_sgf.specs.Sizes.{point_count}
use Rattle.tt_board.specs.Position.{Colouring}
use Rattle.tt_board.specs.Reach.{entry_at}
use Rattle.tt_board.specs.declared.counted.chain_counts.ChainCounts.{ChainCounts}
use Rattle.tt_board.specs.inside.Chains.{AreLinked, name_at, root_of, IsNamed, touching, is_liberty, liberty_count, stone_count, renamed, IsLiving, AreCounted, AreNamesBut, AreGathered, Touches}
use Rattle.tt_board.specs.Decided.{decision_test}
use Rattle.tt_board.specs.declared.counted.play_kind.TheConstants.{OFF_BOARD_NAME}
use Rattle.tt_board.proofs.CountLemmas.{same_decided, count_same}
use Rattle.tt_board.specs.laws.NearLaws.{near_back}
use Rattle.tt_board.proofs.LinkLemmas.{linked_trans, linked_sym, linked_on, linked_self, named_bare}
use Rattle.tt_board.proofs.PlayKindLemmas.{never_nowhere}

-- a name that changes, and one that doesn't
pub renamed_is : (a b x : ℕ) → x ≡ a → renamed a b x ≡ b
renamed_is a b x h = ap (λ t. cond t b x) (eq-eqb x a h)

pub renamed_not : (a b x : ℕ) → x ≢ a → renamed a b x ≡ x
renamed_not a b x h = ap (λ t. cond t b x) (ne_eqb x a h)

-- names are changed point by point, and past the end nothing is
pub name_renamed : (a b : ℕ) (ns : List ℕ) (k : ℕ) → a ≢ 0 → name_at (map (renamed a b) ns) k ≡ renamed a b (name_at ns k)
name_renamed a b ns k living = subst (λ d. get_or (map (renamed a b) ns) k d ≡ renamed a b (name_at ns k)) (renamed_not a b 0 (λ e. living (sym e))) (math.get_or-map (renamed a b) ns k 0)

-- what is changed at each point is changed as a whole
pub renamed_from : (a b : ℕ) (old new : List ℕ) → a ≢ 0 → length new ≡ length old → ((k : ℕ) → k < length old → name_at new k ≡ renamed a b (name_at old k)) → new ≡ map (renamed a b) old
renamed_from a b old new living fits each = ext_get_or 0 new (map (renamed a b) old) (fits ∙ sym (length-map old (renamed a b)))
    (λ k below. each k (omega (arith, fits)) ∙ sym (name_renamed a b old k living))

-- a name in part of its points is another
pub IsPartly : ℕ → ℕ → List ℕ → List ℕ → Type 0
IsPartly a b old new = (k : ℕ) → (name_at new k ≡ name_at old k) ⊎ ((name_at old k ≡ a) × (name_at new k ≡ b))

pub partly_none : (a b : ℕ) (old : List ℕ) → IsPartly a b old old
unfolding IsPartly
partly_none a b old k = inl refl

-- one more point that had it
pub partly_more : (a b : ℕ) (old new : List ℕ) (p : ℕ) → p < length new → name_at new p ≡ a → IsPartly a b old new → IsPartly a b old (set new p b)
unfolding IsPartly
partly_more a b old new p in_p is h k = elim (cases_eq k p) [
  | inl at ↦
      let was : name_at new k ≡ a = ap (name_at new) at ∙ is in
      let now : name_at (set new p b) k ≡ b = ap (name_at (set new p b)) at ∙ get_or-set_same new p b 0 in_p in
      elim (h k) [
        | inl same ↦ inr (sym same ∙ was, now)
        | inr gone ↦ inr (gone.0, now)
      ]
  | inr apart ↦
      let same' = get_or-set_other new p k b 0 apart in
      elim (h k) [
        | inl same ↦ inl (same' ∙ same)
        | inr gone ↦ inr (gone.0, same' ∙ gone.1)
      ]
]

-- a point that had another name still has it
pub partly_kept : (a b : ℕ) (old new : List ℕ) (k : ℕ) → IsPartly a b old new → name_at old k ≢ a → name_at new k ≡ name_at old k
unfolding IsPartly
partly_kept a b old new k h other = elim (h k) [ inl same ↦ same | inr gone ↦ absurd (other gone.0) ]

-- once no point has it any more it is changed as a whole
pub partly_whole : (a b : ℕ) (old new : List ℕ) → a ≢ 0 → length new ≡ length old → IsPartly a b old new → ((k : ℕ) → k < length old → name_at new k ≢ a) → new ≡ map (renamed a b) old
unfolding IsPartly
partly_whole a b old new living fits h none = renamed_from a b old new living fits (λ k below. elim (h k) [
  | inl same ↦ same ∙ sym (renamed_not a b (name_at old k) (λ e. none k below (same ∙ e)))
  | inr gone ↦ gone.1 ∙ sym (renamed_is a b (name_at old k) gone.0)
])

-- a point that has it is on the board, where no name stands past that
pub partly_on_board : (s : Size) (a b : ℕ) (old new : List ℕ) (p : ℕ) → ((q : ℕ) → point_count s ≤ q → name_at old q ≡ 0) → a ≢ 0 → IsPartly a b old new → name_at new p ≡ a
    → p < point_count s
partly_on_board s a b old new p ends living h is = elim (cases_lt p (point_count s)) [
  | inl below ↦ below
  | inr past ↦ let bare = ends p past in absurd (living (sym is ∙ partly_kept a b old new p h (λ e. living (sym e ∙ bare)) ∙ bare))
]

-- ---- stones

-- one point gets another name
pub stones_set : (ns : List ℕ) (p x m : ℕ) → p < length ns → stone_count (set ns p x) m + cond (eqb (name_at ns p) m) 1 0 ≡ stone_count ns m + cond (eqb x m) 1 0
unfolding stone_count
stones_set ns p x m in_p = sum_by-set (λ y. cond (eqb y m) 1 0) ns p x 0 in_p

-- a chain has no more stones than there are points
pub stone_count_le : (ns : List ℕ) (m : ℕ) → stone_count ns m ≤ length ns
unfolding stone_count
stone_count_le ns m = count_by-le-length (λ x. eqb x m) ns

-- a name that stands nowhere has no stones
pub stones_none : (ns : List ℕ) (m : ℕ) → ((k : ℕ) → k < length ns → name_at ns k ≢ m) → stone_count ns m ≡ 0
unfolding stone_count
stones_none [] m none = refl
stones_none (x ∷ xs) m none =
    let rest = stones_none xs m (λ k below. none (suc k) (omega arith)) in
    let here : ◌≡◌ {A = ℕ} (cond (eqb x m) 1 0) 0 = ap (λ b. cond b 1 0) (ne_eqb x m (none 0 (omega arith))) in
    omega (arith, sum_by-cons (λ y. cond (eqb y m) 1 0) x xs, rest, here)

-- one that has no stones stands nowhere
pub none_stones : (ns : List ℕ) (m : ℕ) → stone_count ns m ≡ 0 → (k : ℕ) → k < length ns → name_at ns k ≢ m
none_stones ns m none k below is =
    let one : ◌≡◌ {A = ℕ} (cond (eqb (name_at ns k) m) 1 0) 1 = ap (λ b. cond b 1 0) (eq-eqb (name_at ns k) m is) in
    let other : ◌≡◌ {A = ℕ} (cond (eqb (m + 1) m) 1 0) 0 = ap (λ b. cond b 1 0) (ne_eqb (m + 1) m (λ e. omega arith)) in
    omega (arith, stones_set ns k (m + 1) m below, one, other, none)

-- one that has stones stands somewhere
pub some_stone : (ns : List ℕ) (m : ℕ) → 0 < stone_count ns m → (k : ℕ) × (k < length ns) × (name_at ns k ≡ m)
unfolding stone_count
some_stone [] m some = absurd (omega arith)
some_stone (x ∷ xs) m some = elim (cases_eq x m) [
  | inl is ↦ (0, omega arith, is)
  | inr isnt ↦
      let here : ◌≡◌ {A = ℕ} (cond (eqb x m) 1 0) 0 = ap (λ b. cond b 1 0) (ne_eqb x m isnt) in
      let t = some_stone xs m (omega (arith, sum_by-cons (λ y. cond (eqb y m) 1 0) x xs, here, some)) in
      (suc t.0, omega (arith, t.1), t.2)
]

-- a point that another name takes is a stone fewer of the one, and a stone more of the other
pub stones_fewer : (ns : List ℕ) (p x m : ℕ) → p < length ns → name_at ns p ≡ m → x ≢ m → stone_count (set ns p x) m + 1 ≡ stone_count ns m
stones_fewer ns p x m in_p is other =
    let one : ◌≡◌ {A = ℕ} (cond (eqb (name_at ns p) m) 1 0) 1 = ap (λ b. cond b 1 0) (eq-eqb (name_at ns p) m is) in
    let none : ◌≡◌ {A = ℕ} (cond (eqb x m) 1 0) 0 = ap (λ b. cond b 1 0) (ne_eqb x m other) in
    omega (arith, stones_set ns p x m in_p, one, none)

pub stones_more : (ns : List ℕ) (p x : ℕ) → p < length ns → name_at ns p ≢ x → stone_count (set ns p x) x ≡ stone_count ns x + 1
stones_more ns p x in_p other =
    let one : ◌≡◌ {A = ℕ} (cond (eqb x x) 1 0) 1 = ap (λ b. cond b 1 0) (eq-eqb x x refl) in
    let none : ◌≡◌ {A = ℕ} (cond (eqb (name_at ns p) x) 1 0) 0 = ap (λ b. cond b 1 0) (ne_eqb (name_at ns p) x other) in
    omega (arith, stones_set ns p x x in_p, one, none)

pub stones_same : (ns : List ℕ) (p x m : ℕ) → p < length ns → name_at ns p ≢ m → x ≢ m → stone_count (set ns p x) m ≡ stone_count ns m
stones_same ns p x m in_p old new =
    let none : ◌≡◌ {A = ℕ} (cond (eqb x m) 1 0) 0 = ap (λ b. cond b 1 0) (ne_eqb x m new) in
    let no' : ◌≡◌ {A = ℕ} (cond (eqb (name_at ns p) m) 1 0) 0 = ap (λ b. cond b 1 0) (ne_eqb (name_at ns p) m old) in
    omega (arith, stones_set ns p x m in_p, none, no')

-- a chain that takes another's name brings it its stones
pub stones_joined : (a b : ℕ) (ns : List ℕ) → a ≢ b → stone_count (map (renamed a b) ns) b ≡ stone_count ns b + stone_count ns a
unfolding stone_count
stones_joined a b [] apart = refl
stones_joined a b (x ∷ xs) apart =
    let rest = stones_joined a b xs apart in
    let m = sum_by-cons (λ y. cond (eqb y b) 1 0) (renamed a b x) (map (renamed a b) xs) in
    let mb = sum_by-cons (λ y. cond (eqb y b) 1 0) x xs in
    let ma = sum_by-cons (λ y. cond (eqb y a) 1 0) x xs in
    elim (cases_eq x a) [
      | inl is ↦
          let e1 : ◌≡◌ {A = ℕ} (cond (eqb (renamed a b x) b) 1 0) 1 = ap (λ t. cond t 1 0) (eq-eqb (renamed a b x) b (renamed_is a b x is)) in
          let e2 : ◌≡◌ {A = ℕ} (cond (eqb x b) 1 0) 0 = ap (λ t. cond t 1 0) (ne_eqb x b (λ e. apart (sym is ∙ e))) in
          let e3 : ◌≡◌ {A = ℕ} (cond (eqb x a) 1 0) 1 = ap (λ t. cond t 1 0) (eq-eqb x a is) in
          omega (arith, rest, m, mb, ma, e1, e2, e3)
      | inr isnt ↦
          let e1 : ◌≡◌ {A = ℕ} (cond (eqb (renamed a b x) b) 1 0) (cond (eqb x b) 1 0) = ap (λ y. cond (eqb y b) 1 0) (renamed_not a b x isnt) in
          let e3 : ◌≡◌ {A = ℕ} (cond (eqb x a) 1 0) 0 = ap (λ t. cond t 1 0) (ne_eqb x a isnt) in
          omega (arith, rest, m, mb, ma, e1, e3)
    ]

-- and no other chain any
pub stones_others : (a b m : ℕ) (ns : List ℕ) → m ≢ a → m ≢ b → stone_count (map (renamed a b) ns) m ≡ stone_count ns m
unfolding stone_count
stones_others a b m [] old new = refl
stones_others a b m (x ∷ xs) old new =
    let rest = stones_others a b m xs old new in
    let mr = sum_by-cons (λ y. cond (eqb y m) 1 0) (renamed a b x) (map (renamed a b) xs) in
    let mx = sum_by-cons (λ y. cond (eqb y m) 1 0) x xs in
    elim (cases_eq x a) [
      | inl is ↦
          let e1 : ◌≡◌ {A = ℕ} (cond (eqb (renamed a b x) m) 1 0) 0 = ap (λ t. cond t 1 0) (ne_eqb (renamed a b x) m (λ e. new (sym e ∙ renamed_is a b x is))) in
          let e2 : ◌≡◌ {A = ℕ} (cond (eqb x m) 1 0) 0 = ap (λ t. cond t 1 0) (ne_eqb x m (λ e. old (sym e ∙ is))) in
          omega (arith, rest, mr, mx, e1, e2)
      | inr isnt ↦
          let e1 : ◌≡◌ {A = ℕ} (cond (eqb (renamed a b x) m) 1 0) (cond (eqb x m) 1 0) = ap (λ y. cond (eqb y m) 1 0) (renamed_not a b x isnt) in
          omega (arith, rest, mr, mx, e1)
    ]

-- a chain of one stone takes another's name at its root
pub one_renamed : (ns : List ℕ) (a b : ℕ) → a ≢ 0 → a ≢ b → root_of a < length ns → name_at ns (root_of a) ≡ a → stone_count ns a ≡ 1 → set ns (root_of a) b ≡ map (renamed a b) ns
one_renamed ns a b living apart in_r rooted one =
    let r = root_of a in
    let fewer = stones_fewer ns r b a in_r rooted (λ e. apart (sym e)) in
    partly_whole a b ns (set ns r b) living (length-set ns r b) (partly_more a b ns ns r in_r rooted (partly_none a b ns))
    (λ k below. none_stones (set ns r b) a (omega (arith, fewer, one)) k (omega (arith, length-set ns r b)))

-- ---- liberties

-- a chain that takes another's name leaves all others their liberties
pub liberties_others : (s : Size) (a b m : ℕ) (ns : List ℕ) → a ≢ 0 → b ≢ 0 → m ≢ a → m ≢ b → liberty_count s (map (renamed a b) ns) m ≡ liberty_count s ns m
unfolding liberty_count
liberties_others s a b m ns living_a living_b old new =
    count_same (is_liberty s ns m) (is_liberty s (map (renamed a b) ns) m) (point_count s) (λ k below.
    ap (λ t. t && decision_test (touching s ns m k)) (sym (empty_same k))
    ∙ ap (λ t. eqb (name_at (map (renamed a b) ns) k) 0 && t) (same_decided (touching s ns m k) (touching s (map (renamed a b) ns) m k)
    (λ t. (t.0, t.1, (t.2.0, name_renamed a b ns t.0 living_a ∙ renamed_not a b _ (λ e. old (sym t.2.1 ∙ e)) ∙ t.2.1)))
    (λ t. (t.0, t.1, (t.2.0, back t.0 t.2.1)))))
  where
    back : (r : ℕ) → name_at (map (renamed a b) ns) r ≡ m → name_at ns r ≡ m
    back r is = elim (cases_eq (name_at ns r) a) [
      | inl at ↦ absurd (new (sym is ∙ name_renamed a b ns r living_a ∙ renamed_is a b _ at))
      | inr apart ↦ sym (renamed_not a b _ apart) ∙ sym (name_renamed a b ns r living_a) ∙ is
    ]

    -- the same points are empty
    empty_same : (k : ℕ) → eqb (name_at (map (renamed a b) ns) k) 0 ≡ eqb (name_at ns k) 0
    empty_same k = elim (cases_eq (name_at ns k) a) [
      | inl at ↦ ne_eqb _ 0 (λ e. living_b (sym (renamed_is a b _ at) ∙ sym (name_renamed a b ns k living_a) ∙ e)) ∙ sym (ne_eqb _ 0 (λ e. living_a (sym at ∙ e)))
      | inr apart ↦ ap (λ y. eqb y 0) (name_renamed a b ns k living_a ∙ renamed_not a b _ apart)
    ]

-- ---- both counts

-- the root of a living chain is a point
pub root_below : (ns : List ℕ) (e : ℕ) → e ≢ 0 → name_at ns (root_of e) ≡ e → root_of e < length ns
root_below ns e living rooted = elim (cases_lt (root_of e) (length ns)) [
  | inl h ↦ h
  | inr past ↦ absurd (living (sym rooted ∙ get_or_past ns (root_of e) 0 past))
]

-- and one of the board
pub root_on_board : (s : Size) (ns : List ℕ) (e : ℕ) → ((q : ℕ) → point_count s ≤ q → name_at ns q ≡ 0) → e ≢ 0 → name_at ns (root_of e) ≡ e → root_of e < point_count s
root_on_board s ns e ends living rooted = elim (cases_lt (root_of e) (point_count s)) [
  | inl h ↦ h
  | inr past ↦ absurd (living (sym rooted ∙ ends (root_of e) past))
]

-- different chains have different roots
pub roots_apart : (ns : List ℕ) (e f : ℕ) → name_at ns (root_of e) ≡ e → name_at ns (root_of f) ≡ f → e ≢ f → root_of e ≢ root_of f
roots_apart ns e f re rf apart same = apart (sym re ∙ ap (name_at ns) same ∙ rf)

-- the count of a living chain's stones is true
pub living_stones : (s : Size) (k : ChainCounts) (e : ℕ) → AreCounted s k → IsLiving k.names e → name_at k.stones (root_of e) ≡ stone_count k.names e
living_stones s k e counted (living, rooted) = subst (λ m. name_at k.stones (root_of m) ≡ stone_count k.names m) rooted (counted.stones_true (root_of e) (λ z. living (sym rooted ∙ z)))

-- the counts are true again when one chain takes another's name
module _ (s : Size) (k : ChainCounts) (a b gained : ℕ) (counted : AreCounted s k) (living_a : a ≢ 0) (living_b : b ≢ 0) (apart : a ≢ b)
    (root_a : name_at k.names (root_of a) ≡ a) (root_b : name_at k.names (root_of b) ≡ b)
    (gain : liberty_count s (map (renamed a b) k.names) b ≡ liberty_count s k.names b + gained) where
  -- what stands at the two roots is true
  counts_stones : name_at k.stones (root_of a) ≡ stone_count k.names a
  counts_stones = living_stones s k a counted (living_a, root_a)

  to_stones : name_at k.stones (root_of b) ≡ stone_count k.names b
  to_stones = living_stones s k b counted (living_b, root_b)

  to_liberties : name_at k.liberties (root_of b) ≡ liberty_count s k.names b
  to_liberties = subst (λ e. name_at k.liberties (root_of e) ≡ liberty_count s k.names e) root_b (counted.liberties_true (root_of b) (λ e. living_b (sym root_b ∙ e)))

  -- the joined chain's counts
  pub joined_stones : name_at k.stones (root_of b) + name_at k.stones (root_of a) ≡ stone_count (map (renamed a b) k.names) b
  joined_stones = omega (arith, counts_stones, to_stones, stones_joined a b k.names apart)

  pub joined_liberties : name_at k.liberties (root_of b) + gained ≡ liberty_count s (map (renamed a b) k.names) b
  joined_liberties = omega (arith, to_liberties, gain)

  -- a living name is the joined chain's, or that of another chain as before
  which : (p : ℕ) → name_at (map (renamed a b) k.names) p ≢ 0
      → (name_at (map (renamed a b) k.names) p ≡ b) ⊎ ((name_at (map (renamed a b) k.names) p ≡ name_at k.names p) × (name_at k.names p ≢ a) × (name_at k.names p ≢ b))
  which p living = elim (cases_eq (name_at k.names p) a) [
    | inl at ↦ inl (name_renamed a b k.names p living_a ∙ renamed_is a b _ at)
    | inr away ↦
        let same = name_renamed a b k.names p living_a ∙ renamed_not a b _ away in
        elim (cases_eq (name_at k.names p) b) [ inl is ↦ inl (same ∙ is) | inr isnt ↦ inr (same, away, isnt) ]
  ]

  -- with them all counts are true
  pub counted_joined : length k.stones ≡ length k.names → length k.liberties ≡ length k.names → AreCounted s (record {
    names = map (renamed a b) k.names;
    stones = set k.stones (root_of b) (name_at k.stones (root_of b) + name_at k.stones (root_of a));
    liberties = set k.liberties (root_of b) (name_at k.liberties (root_of b) + gained);
  })
  counted_joined few also =
      let new = map (renamed a b) k.names in
      let in_b = root_below k.names b living_b root_b in
      record {
        ends = λ q past. name_renamed a b k.names q living_a ∙ renamed_not a b _ (λ e. living_a (sym e ∙ counted.ends q past)) ∙ counted.ends q past;
        rooted = λ p living. elim (which p living) [
          | inl is ↦ subst (λ e. name_at new (root_of e) ≡ e) (sym is) (name_renamed a b k.names (root_of b) living_a ∙ renamed_not a b _ (λ e. apart (sym e ∙ root_b)) ∙ root_b)
          | inr (same, away, isnt) ↦
              let old = counted.rooted p (λ e. living (same ∙ e)) in
              subst (λ e. name_at new (root_of e) ≡ e) (sym same)
              (name_renamed a b k.names (root_of (name_at k.names p)) living_a ∙ renamed_not a b _ (λ e. away (sym old ∙ e)) ∙ old)
        ];
        stones_true = λ p living. elim (which p living) [
          | inl is ↦ subst (λ e. name_at (set k.stones (root_of b) (name_at k.stones (root_of b) + name_at k.stones (root_of a))) (root_of e) ≡ stone_count new e) (sym is)
              (get_or-set_same k.stones (root_of b) _ 0 (omega (arith, in_b, few)) ∙ joined_stones)
          | inr (same, away, isnt) ↦
              let some : name_at k.names p ≢ 0 = λ e. living (same ∙ e) in
              subst (λ e. name_at (set k.stones (root_of b) (name_at k.stones (root_of b) + name_at k.stones (root_of a))) (root_of e) ≡ stone_count new e) (sym same)
              (get_or-set_other k.stones (root_of b) (root_of (name_at k.names p)) _ 0 (roots_apart k.names (name_at k.names p) b (counted.rooted p some) root_b isnt)
              ∙ counted.stones_true p some ∙ sym (stones_others a b (name_at k.names p) k.names away isnt))
        ];
        liberties_true = λ p living. elim (which p living) [
          | inl is ↦ subst (λ e. name_at (set k.liberties (root_of b) (name_at k.liberties (root_of b) + gained)) (root_of e) ≡ liberty_count s new e) (sym is)
              (get_or-set_same k.liberties (root_of b) _ 0 (omega (arith, in_b, also)) ∙ joined_liberties)
          | inr (same, away, isnt) ↦
              let some : name_at k.names p ≢ 0 = λ e. living (same ∙ e) in
              subst (λ e. name_at (set k.liberties (root_of b) (name_at k.liberties (root_of b) + gained)) (root_of e) ≡ liberty_count s new e) (sym same)
              (get_or-set_other k.liberties (root_of b) (root_of (name_at k.names p)) _ 0 (roots_apart k.names (name_at k.names p) b (counted.rooted p some) root_b isnt)
              ∙ counted.liberties_true p some ∙ sym (liberties_others s a b (name_at k.names p) k.names living_a living_b away isnt))
        ];
      }

-- ---- names

-- a name of the same colour fits where a name fits
named_code : (e : Option Colour) (a b : ℕ) → IsNamed e a → a ≢ 0 → b / 512 ≡ a / 512 → IsNamed e b
named_code None a b h living same = absurd (living h)
named_code (Some k) a b h living same = same ∙ h

-- names of one colour are of points alike, and names of points alike are of one colour
pub codes_alike : (e f : Option Colour) (a b : ℕ) → IsNamed e a → IsNamed f b → b ≢ 0 → a / 512 ≡ b / 512 → e ≡ f
codes_alike e None a b h g living same = absurd (living g)
codes_alike None (Some Black) a b h g living same = absurd (omega arith)
codes_alike None (Some White) a b h g living same = absurd (omega arith)
codes_alike (Some Black) (Some Black) a b h g living same = refl
codes_alike (Some White) (Some White) a b h g living same = refl
codes_alike (Some Black) (Some White) a b h g living same = absurd (omega arith)
codes_alike (Some White) (Some Black) a b h g living same = absurd (omega arith)

-- points alike have names of one colour
pub alike_codes : (e f : Option Colour) (a b : ℕ) → IsNamed e a → IsNamed f b → e ≡ f → a / 512 ≡ b / 512
alike_codes None f a b h g same = ap (λ x. x / 512) (h ∙ sym (named_bare f b g (sym same)))
alike_codes (Some k) f a b h g same = h ∙ sym (subst (λ x. IsNamed x b) (sym same) g)

-- two chains of linked stones become one: what is said of the names still is
pub but_united : (s : Size) (c : Colouring) (ns : List ℕ) (p a b x y : ℕ) → AreNamesBut s c ns p → a ≢ 0 → b ≢ 0 → b / 512 ≡ a / 512
    → x < point_count s → y < point_count s → name_at ns x ≡ a → name_at ns y ≡ b → AreLinked s c x y → AreNamesBut s c (map (renamed a b) ns) p
but_united s c ns p a b x y n living_a living_b same in_x in_y is_a is_b link = record {
  named = λ q. elim (cases_eq (name_at ns q) a) [
    | inl at ↦ subst (IsNamed (entry_at c q)) (sym (now_b q at)) (named_code (entry_at c q) a b (subst (IsNamed (entry_at c q)) at (n.named q)) living_a same)
    | inr away ↦ subst (IsNamed (entry_at c q)) (sym (now_same q away)) (n.named q)
  ];
  one_chain = λ z w in_z in_w living e. elim (cases_eq (name_at ns z) a) [
    | inl zs ↦ elim (cases_eq (name_at ns w) a) [
      | inl ws ↦ n.one_chain z w in_z in_w (λ h. living_a (sym zs ∙ h)) (zs ∙ sym ws)
      | inr wn ↦ through z w in_z in_w zs (sym (now_same w wn) ∙ sym e ∙ now_b z zs)
    ]
    | inr zn ↦ elim (cases_eq (name_at ns w) a) [
      | inl ws ↦ linked_sym s c w z in_w (through w z in_w in_z ws (sym (now_same z zn) ∙ e ∙ now_b w ws))
      | inr wn ↦ n.one_chain z w in_z in_w (λ h. living (now_same z zn ∙ h)) (sym (now_same z zn) ∙ e ∙ now_same w wn)
    ]
  ];
  one_name = λ z w in_z near az aw stone alike. name_renamed a b ns z living_a ∙ ap (renamed a b) (n.one_name z w in_z near az aw stone alike) ∙ sym (name_renamed a b ns w living_a);
}
  where
    now_b : (q : ℕ) → name_at ns q ≡ a → name_at (map (renamed a b) ns) q ≡ b
    now_b q at = name_renamed a b ns q living_a ∙ renamed_is a b _ at

    now_same : (q : ℕ) → name_at ns q ≢ a → name_at (map (renamed a b) ns) q ≡ name_at ns q
    now_same q away = name_renamed a b ns q living_a ∙ renamed_not a b _ away

    -- a stone of the one chain is linked with each of the other
    through : (z w : ℕ) → z < point_count s → w < point_count s → name_at ns z ≡ a → name_at ns w ≡ b → AreLinked s c z w
    through z w in_z in_w zs ws = linked_trans s c z x w (n.one_chain z x in_z in_x (λ h. living_a (sym zs ∙ h)) (zs ∙ sym is_a))
        (linked_trans s c x y w link (n.one_chain y w in_y in_w (λ h. living_b (sym is_b ∙ h)) (is_b ∙ sym ws)))

-- nothing has become one with the stone on p
pub gathered_none : (s : Size) (ns : List ℕ) (p : ℕ) → ((q : ℕ) → point_count s ≤ q → name_at ns q ≡ 0) → 512 ≤ name_at ns p → AreGathered s ns ns p
gathered_none s ns p ends stone = record { ends = ends; stone = stone; named = λ c n. n; together = λ x y e. e; changed = λ x. inl refl }

-- some have, and then more
pub gathered_more : (s : Size) (old mid new : List ℕ) (p : ℕ) → AreGathered s old mid p → AreGathered s mid new p → AreGathered s old new p
gathered_more s old mid new p g h = record {
  ends = h.ends;
  stone = h.stone;
  named = λ c n. h.named c (g.named c n);
  together = λ x y e. h.together x y (g.together x y e);
  changed = λ x. elim (h.changed x) [
    | inl same ↦ elim (g.changed x) [ inl was ↦ inl (same ∙ was) | inr own ↦ inr (h.together x p own) ]
    | inr own ↦ inr own
  ];
}

-- a chain that still has its name is still beside p
pub touches_still : (s : Size) (old new : List ℕ) (p m : ℕ) → AreGathered s old new p → name_at old (root_of m) ≡ m → name_at new (root_of m) ≡ m → Touches s old m p → Touches s new m p
touches_still s old new p m g was is t = (t.0, t.1, (t.2.0, g.together t.0 (root_of m) (t.2.1 ∙ sym was) ∙ is))

-- a stone of p's colour has become one with it, if the chain of its name did where that name was still there
pub joined_still : (s : Size) (c : Colouring) (first old new : List ℕ) (p q m : ℕ) → AreGathered s first old p → AreGathered s old new p → AreNamesBut s c first p → AreNamesBut s c old p
    → m ≡ name_at first q → name_at first (root_of m) ≡ m → entry_at c q ≡ entry_at c p
    → (m / 512 ≡ name_at old p / 512 → name_at old (root_of m) ≡ m → name_at new (root_of m) ≡ name_at new p) → name_at new q ≡ name_at new p
joined_still s c first old new p q m g h n0 n is was alike joined =
    h.together q (root_of m) (g.together q (root_of m) (sym is ∙ sym was)) ∙ (elim (g.changed (root_of m)) [
      | inl same ↦ joined (alike_codes _ _ m (name_at old p) (subst (IsNamed (entry_at c q)) (sym is) (n0.named q)) (n.named p) alike) (same ∙ was)
      | inr own ↦ h.together (root_of m) p own
    ])

-- the chain m takes the name of that on p, or that on p takes its name
module _ (s : Size) (ns : List ℕ) (p m a b : ℕ) (in_p : p < point_count s) (ends : (r : ℕ) → point_count s ≤ r → name_at ns r ≡ 0) (stone : 512 ≤ name_at ns p)
    (apart : a ≢ b) (codes : m / 512 ≡ name_at ns p / 512) (which : ((a ≡ m) × (b ≡ name_at ns p)) ⊎ ((a ≡ name_at ns p) × (b ≡ m))) where
  living_a : a ≢ 0
  living_a z = elim which [ inl w ↦ omega (arith, w.0, stone, codes) | inr w ↦ omega (arith, w.0, stone) ]

  living_b : b ≢ 0
  living_b z = elim which [ inl w ↦ omega (arith, w.1, stone) | inr w ↦ omega (arith, w.1, stone, codes) ]

  now_b : (r : ℕ) → name_at ns r ≡ a → name_at (map (renamed a b) ns) r ≡ b
  now_b r at = name_renamed a b ns r living_a ∙ renamed_is a b _ at

  now_same : (r : ℕ) → name_at ns r ≢ a → name_at (map (renamed a b) ns) r ≡ name_at ns r
  now_same r away = name_renamed a b ns r living_a ∙ renamed_not a b _ away

  codes_of : ((a ≡ m) × (b ≡ name_at ns p)) → b / 512 ≡ a / 512
  codes_of w = ap (λ x. x / 512) w.1 ∙ sym codes ∙ ap (λ x. x / 512) (sym w.0)

  codes_back : ((a ≡ name_at ns p) × (b ≡ m)) → b / 512 ≡ a / 512
  codes_back w = ap (λ x. x / 512) w.1 ∙ codes ∙ ap (λ x. x / 512) (sym w.0)

  -- where a stone of m is beside p they are linked, in each colouring that the names fit
  pub gathered_united : (m ≢ OFF_BOARD_NAME → Touches s ns m p) → AreGathered s ns (map (renamed a b) ns) p
  gathered_united touch = record {
    ends = λ r past. now_same r (λ e. living_a (sym e ∙ ends r past)) ∙ ends r past;
    stone = elim which [
      | inl w ↦ let h = now_same p (λ e. apart (sym e ∙ sym w.1)) in omega (arith, h, stone)
      | inr w ↦ let h = now_b p (sym w.0) in omega (arith, h, w.1, stone, codes)
    ];
    named = λ c n.
        let own : IsNamed (entry_at c p) m = named_code (entry_at c p) (name_at ns p) m (n.named p) (λ z. omega (arith, z, stone)) codes in
        let t = touch (never_nowhere (entry_at c p) m own) in
        let alike : entry_at c t.0 ≡ entry_at c p
        = codes_alike _ _ _ _ (n.named t.0) (n.named p) (λ e. omega (arith, e, stone)) (ap (λ x. x / 512) t.2.1 ∙ codes) in
        elim which [
          | inl w ↦ but_united s c ns p a b t.0 p n living_a living_b (codes_of w) t.1 in_p (t.2.1 ∙ sym w.0) (sym w.1)
              (linked_on s c t.0 p p (near_back s p t.0 in_p t.2.0) (sym alike) (linked_self s c p))
          | inr w ↦ but_united s c ns p a b p t.0 n living_a living_b (codes_back w) in_p t.1 (sym w.0) (t.2.1 ∙ sym w.1) (linked_on s c p t.0 t.0 t.2.0 alike (linked_self s c t.0))
        ];
    together = λ x y e. name_renamed a b ns x living_a ∙ ap (renamed a b) e ∙ sym (name_renamed a b ns y living_a);
    changed = λ x. elim (cases_eq (name_at ns x) a) [
      | inr away ↦ inl (now_same x away)
      | inl at ↦ inr (now_b x at ∙ (elim which [
        | inl w ↦ w.1 ∙ sym (now_same p (λ e. apart (sym e ∙ sym w.1)))
        | inr w ↦ sym (now_b p (sym w.0))
      ]))
    ];
  }

  -- the chain has p's name then
  pub joined_united : name_at ns (root_of m) ≡ m → name_at (map (renamed a b) ns) (root_of m) ≡ name_at (map (renamed a b) ns) p
  joined_united is = elim which [
    | inl w ↦ now_b (root_of m) (is ∙ sym w.0) ∙ w.1 ∙ sym (now_same p (λ e. apart (sym e ∙ sym w.1)))
    | inr w ↦ now_same (root_of m) (λ e. apart (sym e ∙ is ∙ sym w.1)) ∙ is ∙ sym w.1 ∙ sym (now_b p (sym w.0))
  ]
