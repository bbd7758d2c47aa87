-- The counts when a stone comes as a chain of its own.
use Rattle.std.proofs.Common.{◌≡◌, ◌≢◌, ℕ, ◌+◌, ◌<◌, ◌⊎◌, ◌==◌, List, cond, set, length, Contains, inl, inr, refl, sym, ap, subst, ◌∙◌, arith}
use Rattle.std.proofs.lemmas.Bool.{cases_eq, cases_Bool, false≢true}
use Rattle.std.proofs.lemmas.List.{get_or-set_same, get_or-set_other}
use Rattle.std.proofs.lemmas.List.Elements.{Contains-get_or}
use Rattle.tt_sgf.specs.declared.size.Size.{Size}
use Rattle.tt_sgf.specs.Sizes.{point_count}
use Rattle.tt_board.specs.declared.counted.chain_counts.ChainCounts.{ChainCounts}
use Rattle.tt_board.specs.inside.Chains.{name_at, root_of, Touches, touching, liberty_count, stone_count, count_beside, AreCounted, IsEachOnce, IsOneName, IsNewName, AreRootsApart}
use Rattle.tt_board.specs.Decided.{decision_test, decision_test_is_exact}
use Rattle.tt_board.proofs.NameLemmas.{count_filled, count_alone, at_p, off_p}
use Rattle.tt_board.proofs.JoinLemmas.{roots_apart, root_below, stones_none, stones_more, stones_same}

-- names of chains that stones beside p have
module _ (s : Size) (ns near : List ℕ) (p : ℕ) (roots : (m : ℕ) → Touches s ns m p → m ≢ 0 → Contains near m → name_at ns (root_of m) ≡ m)
    (only : (m : ℕ) → Contains near m → (m ≢ 0) × Touches s ns m p) where
  -- each of them is living
  pub near_living : (i : ℕ) → i < length near → (name_at near i ≢ 0) × Touches s ns (name_at near i) p
  near_living i in' = only (name_at near i) (Contains-get_or near i 0 in')

  -- each has its root
  pub near_rooted : (i : ℕ) → i < length near → name_at ns (root_of (name_at near i)) ≡ name_at near i
  near_rooted i in' =
      let t = near_living i in' in
      roots (name_at near i) t.1 t.0 (Contains-get_or near i 0 in')

  -- the roots are points, and differ
  pub near_below : (i : ℕ) → i < length near → root_of (name_at near i) < length ns
  near_below i in' = root_below ns (name_at near i) (near_living i in').0 (near_rooted i in')

  pub near_apart : IsEachOnce near → AreRootsApart near
  near_apart once i j before in' = roots_apart ns (name_at near i) (name_at near j) (near_rooted i (omega arith)) (near_rooted j in') (once i j before in')

  -- a chain that isn't beside p has another root
  pub away : (m : ℕ) → name_at ns (root_of m) ≡ m → (Touches s ns m p → ⊥) → (i : ℕ) → i < length near → root_of (name_at near i) ≢ root_of m
  away m root none i in' = roots_apart ns (name_at near i) m (near_rooted i in') root (λ e. none (subst (λ x. Touches s ns x p) e (near_living i in').1))

-- where all chains have their roots, one beside p has
pub touch_rooted : (s : Size) (ns : List ℕ) (p : ℕ) → ((q : ℕ) → name_at ns q ≢ 0 → name_at ns (root_of (name_at ns q)) ≡ name_at ns q)
    → (m : ℕ) → Touches s ns m p → m ≢ 0 → name_at ns (root_of m) ≡ m
touch_rooted s ns p rooted m t some = subst (λ x. name_at ns (root_of x) ≡ x) t.2.1 (rooted t.0 (λ e. some (sym t.2.1 ∙ e)))

-- names that are taken from one after another, each that none before it is: each chain among them is once
module _ (a b c d u : ℕ) (l0 l1 l2 l3 l4 : List ℕ)
    (apart : (m k : ℕ) → IsOneName a b c d m → IsOneName a b c d k → m ≢ 0 → m ≢ u → k ≢ 0 → k ≢ u → m ≢ k → root_of m ≢ root_of k)
    (less1 : IsNewName u a 0 0 0 → name_at l1 (root_of a) + 1 ≡ name_at l0 (root_of a)) (same1 : (r : ℕ) → (IsNewName u a 0 0 0 → root_of a ≢ r) → name_at l1 r ≡ name_at l0 r)
    (less2 : IsNewName u b a 0 0 → name_at l2 (root_of b) + 1 ≡ name_at l1 (root_of b)) (same2 : (r : ℕ) → (IsNewName u b a 0 0 → root_of b ≢ r) → name_at l2 r ≡ name_at l1 r)
    (less3 : IsNewName u c a b 0 → name_at l3 (root_of c) + 1 ≡ name_at l2 (root_of c)) (same3 : (r : ℕ) → (IsNewName u c a b 0 → root_of c ≢ r) → name_at l3 r ≡ name_at l2 r)
    (less4 : IsNewName u d a b c → name_at l4 (root_of d) + 1 ≡ name_at l3 (root_of d)) (same4 : (r : ℕ) → (IsNewName u d a b c → root_of d ≢ r) → name_at l4 r ≡ name_at l3 r) where
  -- another name, or one that stands before, leaves m's count
  leaves : (m x e f g : ℕ) → IsOneName a b c d m → IsOneName a b c d x → m ≢ 0 → m ≢ u → (x ≡ m → (e ≡ m) ⊎ (f ≡ m) ⊎ (g ≡ m)) → IsNewName u x e f g → root_of x ≢ root_of m
  leaves m x e f g one_m one_x some there before (living, placed, not_e, not_f, not_g) = elim (cases_eq x m) [
    | inr away ↦ apart x m one_x one_m living placed some there away
    | inl is ↦ elim (before is) [
      | inl at ↦ absurd (not_e (is ∙ sym at))
      | inr (inl at) ↦ absurd (not_f (is ∙ sym at))
      | inr (inr at) ↦ absurd (not_g (is ∙ sym at))
    ]
  ]

  -- each chain has one fewer
  pub each_fewer : (m : ℕ) → IsOneName a b c d m → m ≢ 0 → m ≢ u → name_at l4 (root_of m) + 1 ≡ name_at l0 (root_of m)
  each_fewer m one some there =
      let in_a : IsOneName a b c d a = inl refl in
      let in_b : IsOneName a b c d b = inr (inl refl) in
      let in_c : IsOneName a b c d c = inr (inr (inl refl)) in
      let in_d : IsOneName a b c d d = inr (inr (inr refl)) in
      elim (cases_eq a m) [
        | inl at ↦
            let e1 : name_at l1 (root_of m) + 1 ≡ name_at l0 (root_of m)
            = subst (λ x. IsNewName u x 0 0 0 → name_at l1 (root_of x) + 1 ≡ name_at l0 (root_of x)) at less1 (some, there, some, some, some) in
            let e2 = same2 (root_of m) (leaves m b a 0 0 one in_b some there (λ _. inl at)) in
            let e3 = same3 (root_of m) (leaves m c a b 0 one in_c some there (λ _. inl at)) in
            let e4 = same4 (root_of m) (leaves m d a b c one in_d some there (λ _. inl at)) in
            omega (arith, e1, e2, e3, e4)
        | inr not_a ↦
            let e1 = same1 (root_of m) (leaves m a 0 0 0 one in_a some there (λ is. absurd (not_a is))) in
            elim (cases_eq b m) [
              | inl at ↦
                  let e2 : name_at l2 (root_of m) + 1 ≡ name_at l1 (root_of m)
                  = subst (λ x. IsNewName u x a 0 0 → name_at l2 (root_of x) + 1 ≡ name_at l1 (root_of x)) at less2 (some, there, (λ e. not_a (sym e)), some, some) in
                  let e3 = same3 (root_of m) (leaves m c a b 0 one in_c some there (λ _. inr (inl at))) in
                  let e4 = same4 (root_of m) (leaves m d a b c one in_d some there (λ _. inr (inl at))) in
                  omega (arith, e1, e2, e3, e4)
              | inr not_b ↦
                  let e2 = same2 (root_of m) (leaves m b a 0 0 one in_b some there (λ is. absurd (not_b is))) in
                  elim (cases_eq c m) [
                    | inl at ↦
                        let e3 : name_at l3 (root_of m) + 1 ≡ name_at l2 (root_of m)
                        = subst (λ x. IsNewName u x a b 0 → name_at l3 (root_of x) + 1 ≡ name_at l2 (root_of x)) at less3 (some, there, (λ e. not_a (sym e)), (λ e. not_b (sym e)), some) in
                        let e4 = same4 (root_of m) (leaves m d a b c one in_d some there (λ _. inr (inr at))) in
                        omega (arith, e1, e2, e3, e4)
                    | inr not_c ↦
                        let e3 = same3 (root_of m) (leaves m c a b 0 one in_c some there (λ is. absurd (not_c is))) in
                        let at : d ≡ m = elim one [
                          | inl is ↦ absurd (not_a is)
                          | inr (inl is) ↦ absurd (not_b is)
                          | inr (inr (inl is)) ↦ absurd (not_c is)
                          | inr (inr (inr is)) ↦ is
                        ] in
                        let e4 : name_at l4 (root_of m) + 1 ≡ name_at l3 (root_of m)
                        = subst (λ x. IsNewName u x a b c → name_at l4 (root_of x) + 1 ≡ name_at l3 (root_of x)) at less4
                        (some, there, (λ e. not_a (sym e)), (λ e. not_b (sym e)), (λ e. not_c (sym e))) in
                        omega (arith, e1, e2, e3, e4)
                  ]
            ]
      ]

  -- no other count changes
  pub others_same : (r : ℕ) → ((m : ℕ) → IsOneName a b c d m → m ≢ 0 → m ≢ u → root_of m ≢ r) → name_at l4 r ≡ name_at l0 r
  others_same r away =
      same4 r (λ f. away d (inr (inr (inr refl))) f.0 f.1) ∙ same3 r (λ f. away c (inr (inr (inl refl))) f.0 f.1)
      ∙ same2 r (λ f. away b (inr (inl refl)) f.0 f.1) ∙ same1 r (λ f. away a (inl refl) f.0 f.1)

module _ (s : Size) (b : ChainCounts) (p e : ℕ) (in_p : p < point_count s) (wide : p < length b.names) (few : p < length b.stones)
    (free : name_at b.names p ≡ 0) (living : e ≢ 0) (root_e : root_of e ≡ p) (counted : AreCounted s b) where
  -- no stone has the new name
  fresh : (k : ℕ) → name_at b.names k ≢ e
  fresh k is = living (sym is ∙ sym (counted.rooted k (λ z. living (sym is ∙ z))) ∙ ap (λ x. name_at b.names (root_of x)) is ∙ ap (name_at b.names) root_e ∙ free)

  -- each chain beside p has a liberty to lose
  pub some_liberty : (m : ℕ) → m ≢ 0 → Touches s b.names m p → 0 < name_at b.liberties (root_of m)
  some_liberty m some t =
      let true' : name_at b.liberties (root_of m) ≡ liberty_count s b.names m = subst (λ x. name_at b.liberties (root_of x) ≡ liberty_count s b.names x) t.2.1
      (counted.liberties_true t.0 (λ z. some (sym t.2.1 ∙ z))) in
      let one : ◌≡◌ {A = ℕ} (cond (decision_test (touching s b.names m p)) 1 0) 1 = ap (λ b. cond b 1 0) ((decision_test_is_exact (touching s b.names m p)).1 t) in
      let filled = count_filled s b.names p e in_p wide m (λ h. some (h ∙ free)) (λ h. fresh t.0 (t.2.1 ∙ h)) free living in
      omega (arith, true', one, filled)

  -- the counts are true with the new chain
  pub counted_started : (fewer : List ℕ) (alone : ℕ) → p < length fewer → alone ≡ count_beside s (λ q. name_at (set b.names p e) q == 0) p
      → ((m : ℕ) → m ≢ 0 → Touches s b.names m p → name_at fewer (root_of m) + 1 ≡ name_at b.liberties (root_of m))
      → ((r : ℕ) → ((m : ℕ) → m ≢ 0 → Touches s b.names m p → root_of m ≢ r) → name_at fewer r ≡ name_at b.liberties r)
      → AreCounted s (record { names = set b.names p e; stones = set b.stones p 1; liberties = set fewer p alone })
  counted_started fewer alone also is_alone less same = record {
    ends = λ q past. off_p s b.names p e in_p wide q (λ at. omega arith) ∙ counted.ends q past;
    rooted = λ q some. elim (cases_eq q p) [
      | inl at ↦ at_root q at
      | inr apart ↦ let m = old q apart some in
          subst (λ x. name_at (set b.names p e) (root_of x) ≡ x) (sym m.0) (get_or-set_other b.names p _ e 0 m.2 ∙ counted.rooted q m.1)
    ];
    stones_true = λ q some. elim (cases_eq q p) [
      | inl at ↦ subst (λ x. name_at (set b.stones p 1) (root_of x) ≡ stone_count (set b.names p e) x) (sym (name_new q at))
          (ap (name_at (set b.stones p 1)) root_e ∙ get_or-set_same b.stones p 1 0 few ∙ sym one_stone)
      | inr apart ↦ let m = old q apart some in
          subst (λ x. name_at (set b.stones p 1) (root_of x) ≡ stone_count (set b.names p e) x) (sym m.0)
          (get_or-set_other b.stones p _ 1 0 m.2 ∙ counted.stones_true q m.1
          ∙ sym (stones_same b.names p e (name_at b.names q) wide (λ h. m.1 (sym h ∙ free)) (λ h. fresh q (sym h))))
    ];
    liberties_true = λ q some. elim (cases_eq q p) [
      | inl at ↦ subst (λ x. name_at (set fewer p alone) (root_of x) ≡ liberty_count s (set b.names p e) x) (sym (name_new q at))
          (ap (name_at (set fewer p alone)) root_e ∙ get_or-set_same fewer p alone 0 also ∙ is_alone ∙ sym (count_alone s b.names p e in_p wide living fresh))
      | inr apart ↦ let m = old q apart some in
          subst (λ x. name_at (set fewer p alone) (root_of x) ≡ liberty_count s (set b.names p e) x) (sym m.0)
          (get_or-set_other fewer p _ alone 0 m.2 ∙ lost q m.1)
    ];
  }
    where
      name_new : (q : ℕ) → q ≡ p → name_at (set b.names p e) q ≡ e
      name_new q at = ap (name_at (set b.names p e)) at ∙ at_p s b.names p e in_p wide

      -- the new chain has its root on p
      at_root : (q : ℕ) → q ≡ p → name_at (set b.names p e) (root_of (name_at (set b.names p e) q)) ≡ name_at (set b.names p e) q
      at_root q at = subst (λ x. name_at (set b.names p e) (root_of x) ≡ x) (sym (name_new q at)) (ap (name_at (set b.names p e)) root_e ∙ at_p s b.names p e in_p wide)

      -- another stone keeps its name, and its root is elsewhere
      old : (q : ℕ) → q ≢ p → name_at (set b.names p e) q ≢ 0 → (name_at (set b.names p e) q ≡ name_at b.names q) × (name_at b.names q ≢ 0) × (root_of (name_at b.names q) ≢ p)
      old q apart some =
          let same' = off_p s b.names p e in_p wide q apart in
          let was : name_at b.names q ≢ 0 = λ z. some (same' ∙ z) in
          (same', was, λ r. was (sym (counted.rooted q was) ∙ ap (name_at b.names) r ∙ free))

      -- the new chain has one stone
      one_stone : stone_count (set b.names p e) e ≡ 1
      one_stone = let more = stones_more b.names p e wide (λ h. living (sym h ∙ free)) in let none = stones_none b.names e (λ k below. fresh k) in omega (arith, more, none)

      -- each other chain beside p has lost a liberty, and no other chain
      lost : (q : ℕ) → name_at b.names q ≢ 0 → name_at fewer (root_of (name_at b.names q)) ≡ liberty_count s (set b.names p e) (name_at b.names q)
      lost q was =
          let m = name_at b.names q in
          let filled = count_filled s b.names p e in_p wide m (λ h. was (h ∙ free)) (λ h. fresh q h) free living in
          let true' = counted.liberties_true q was in
          elim (cases_Bool (decision_test (touching s b.names m p))) [
            | inl on ↦
                let one : ◌≡◌ {A = ℕ} (cond (decision_test (touching s b.names m p)) 1 0) 1 = ap (λ b. cond b 1 0) on in
                let h = less m was ((decision_test_is_exact (touching s b.names m p)).0 on) in
                omega (arith, one, filled, true', h)
            | inr off ↦
                let none : ◌≡◌ {A = ℕ} (cond (decision_test (touching s b.names m p)) 1 0) 0 = ap (λ b. cond b 1 0) off in
                let h = same (root_of m) (λ k some t. roots_apart b.names k m (touch_rooted s b.names p counted.rooted k t some) (counted.rooted q was)
                (λ e. false≢true (sym off ∙ (decision_test_is_exact (touching s b.names m p)).1 (subst (λ x. Touches s b.names x p) e t)))) in
                omega (arith, none, filled, true', h)
          ]
