-- The counts and names when a chain goes.
use Rattle.std.proofs.Common.{◌≡◌, ◌≢◌, ℕ, ◌+◌, ◌-◌, ◌<◌, ◌≤◌, ◌↔◌, List, None, cond, eqb, drop, set, map, length, Contains, inl, inr, refl, sym, ap, subst, ◌∙◌, arith}
use Rattle.std.proofs.lemmas.Bool.{cases_eq, cases_lt, cases_Bool, eq-eqb, ne_eqb, false≢true}
use Rattle.std.proofs.lemmas.List.Sums.{sum_by-drop_more}
use Rattle.std.proofs.lemmas.List.{length-drop, get_or-drop, length-set, get_or-set_same, get_or-set_other, get_or_default, get_or_past}
use Rattle.std.proofs.lemmas.List.Elements.{Contains-get_or}
use Rattle.tt_sgf.specs.declared.size.Size.{Size}
use Rattle.tt_sgf.specs.Sizes.{point_count}
use Rattle.tt_board.specs.Position.{Colouring}
use Rattle.tt_board.specs.Reach.{entry_at}
use Rattle.tt_board.specs.inside.Chains.{name_at, root_of, Touches, touching, liberty_count, stone_count, renamed, IsLiving, OtherChainsRooted, OtherChainsCounted, HasLost}
use Rattle.tt_board.specs.Decided.{decision_test, decision_test_is_exact}
use Rattle.tt_board.proofs.NameLemmas.{count_emptied, at_p, off_p, liberty_count_le}
use Rattle.tt_board.proofs.StartLemmas.{away}
use Rattle.tt_board.proofs.JoinLemmas.{IsPartly, partly_more, partly_kept, partly_whole, stones_fewer, none_stones, one_renamed, root_below, root_on_board, name_renamed, renamed_is}

-- a stone of chain e on p is taken off
module _ (s : Size) (ns : List ℕ) (p e : ℕ) (in_p : p < point_count s) (wide : p < length ns) (living : e ≢ 0) (stone : name_at ns p ≡ e) (rooted : OtherChainsRooted ns e) where
  -- the other chains keep their names and roots
  pub others_were : (q : ℕ) → name_at (set ns p 0) q ≢ 0 → (q ≢ p) × (name_at (set ns p 0) q ≡ name_at ns q)
  others_were q some = elim (cases_eq q p) [
    | inl same ↦ absurd (some (ap (name_at (set ns p 0)) same ∙ at_p s ns p 0 in_p wide))
    | inr apart ↦ (apart, off_p s ns p 0 in_p wide q apart)
  ]

  pub rooted_released : OtherChainsRooted (set ns p 0) e
  rooted_released q some other =
      let was = (others_were q some).1 in
      let root = rooted q (λ z. some (was ∙ z)) (λ z. other (was ∙ z)) in
      subst (λ m. name_at (set ns p 0) (root_of m) ≡ m) (sym was)
      (off_p s ns p 0 in_p wide (root_of (name_at ns q)) (λ at. other (was ∙ sym root ∙ ap (name_at ns) at ∙ stone)) ∙ root)

  module _ (near : List ℕ) (all : (m : ℕ) → Contains near m ↔ ((m ≢ 0) × (m ≢ e) × Touches s (set ns p 0) m p)) where
    -- what is listed is beside p, and has its root
    pub only_beside : (m : ℕ) → Contains near m → (m ≢ 0) × Touches s (set ns p 0) m p
    only_beside m has = let h = (all m).0 has in (h.0, h.2)

    pub beside_rooted : (m : ℕ) → Touches s (set ns p 0) m p → m ≢ 0 → Contains near m → name_at (set ns p 0) (root_of m) ≡ m
    beside_rooted m t some has =
        let h = (all m).0 has in
        subst (λ x. name_at (set ns p 0) (root_of x) ≡ x) t.2.1 (rooted_released t.0 (λ z. some (sym t.2.1 ∙ z)) (λ z. h.1 (sym t.2.1 ∙ z)))

    module _ (liberties : List ℕ) (counted : OtherChainsCounted s ns liberties e) where
      -- the count of a chain beside p is true
      counts : (m r : ℕ) → name_at (set ns p 0) r ≡ m → m ≢ 0 → m ≢ e → name_at liberties (root_of m) ≡ liberty_count s ns m
      counts m r is some other =
          let was = (others_were r (λ z. some (sym is ∙ z))).1 in
          subst (λ x. name_at liberties (root_of x) ≡ liberty_count s ns x) (sym was ∙ is) (counted r (λ z. some (sym is ∙ was ∙ z)) (λ z. other (sym is ∙ was ∙ z)))

      -- there is room for one liberty more
      pub few_liberties : (i : ℕ) → i < length near → name_at liberties (root_of (name_at near i)) ≤ point_count s
      few_liberties i in' =
          let h = (all (name_at near i)).0 (Contains-get_or near i 0 in') in
          let true' = counts (name_at near i) h.2.0 h.2.2.1 h.0 h.1 in
          omega (arith, true', liberty_count_le s ns (name_at near i))

      -- the counts of the other chains are true, once each beside p has one more
      pub counted_released : (raised : List ℕ)
          → ((i : ℕ) → i < length near → name_at raised (root_of (name_at near i)) ≡ name_at liberties (root_of (name_at near i)) + 1)
          → ((r : ℕ) → ((i : ℕ) → i < length near → root_of (name_at near i) ≢ r) → name_at raised r ≡ name_at liberties r)
          → OtherChainsCounted s (set ns p 0) raised e
      counted_released raised more same q some other =
          let m = name_at (set ns p 0) q in
          let old = counts m q refl some other in
          let new = count_emptied s ns p 0 in_p wide m (λ z. other (z ∙ stone)) some (λ z. living (sym stone ∙ z)) refl in
          elim (cases_Bool (decision_test (touching s (set ns p 0) m p))) [
            | inl on ↦
                let one : ◌≡◌ {A = ℕ} (cond (decision_test (touching s (set ns p 0) m p)) 1 0) 1 = ap (λ b. cond b 1 0) on in
                let has = (all m).1 (some, other, (decision_test_is_exact (touching s (set ns p 0) m p)).0 on) in
                let is : name_at near has.0 ≡ m = get_or_default near has.0 0 m has.1 ∙ has.2 in
                let h = subst (λ x. name_at raised (root_of x) ≡ name_at liberties (root_of x) + 1) is (more has.0 has.1) in
                omega (arith, old, new, one, h)
            | inr off ↦
                let none : ◌≡◌ {A = ℕ} (cond (decision_test (touching s (set ns p 0) m p)) 1 0) 0 = ap (λ b. cond b 1 0) off in
                let h = same (root_of m) (away s (set ns p 0) near p beside_rooted only_beside m (rooted_released q some other)
                (λ t. false≢true (sym off ∙ (decision_test_is_exact (touching s (set ns p 0) m p)).1 t))) in
                omega (arith, old, new, none, h)
          ]

-- the stones of chain e are going, one by one
pub record Releasing (s : Size) (old : List ℕ) (before : Colouring) (e : ℕ) (ns : List ℕ) (after : Colouring) (left : ℕ) : Type 0 where
  pub fits : length after ≡ length before
  pub ends : (q : ℕ) → point_count s ≤ q → name_at ns q ≡ 0
  pub partly : IsPartly e 0 old ns
  pub rooted : OtherChainsRooted ns e
  pub left_true : left ≡ stone_count ns e
  pub gone : (q : ℕ) → name_at old q ≡ e → name_at ns q ≢ e → entry_at after q ≡ None
  pub kept : (q : ℕ) → name_at old q ≢ e → entry_at after q ≡ entry_at before q

-- one more of them goes
pub releasing_more : (s : Size) (old : List ℕ) (before : Colouring) (e : ℕ) (ns : List ℕ) (after : Colouring) (left p : ℕ) → Releasing s old before e ns after (left + 1)
    → p < point_count s → p < length ns → p < length after → e ≢ 0 → name_at ns p ≡ e → Releasing s old before e (set ns p 0) (set after p None) left
releasing_more s old before e ns after left p r in_p wide within living stone = record {
  fits = length-set after p None ∙ r.fits;
  ends = λ q past. off q (λ same. omega arith) ∙ r.ends q past;
  partly = partly_more e 0 old ns p wide stone r.partly;
  rooted = rooted_released s ns p e in_p wide living stone r.rooted;
  left_true = let fewer = stones_fewer ns p 0 e wide stone (λ z. living (sym z)) in omega (arith, fewer, r.left_true);
  gone = λ q was other. elim (cases_eq q p) [
    | inl same ↦ ap (entry_at (set after p None)) same ∙ get_or-set_same after p None None within
    | inr apart ↦ get_or-set_other after p q None None apart ∙ r.gone q was (λ is. other (off q apart ∙ is))
  ];
  kept = λ q other. get_or-set_other after p q None None
      (λ same. other (sym (partly_kept' q (ap (name_at ns) same ∙ stone)) ∙ ap (name_at ns) same ∙ stone)) ∙ r.kept q other;
}
  where
    off : (q : ℕ) → q ≢ p → name_at (set ns p 0) q ≡ name_at ns q
    off q apart = off_p s ns p 0 in_p wide q apart

    -- a stone that has the name still had it from the first
    partly_kept' : (q : ℕ) → name_at ns q ≡ e → name_at ns q ≡ name_at old q
    partly_kept' q is = elim (cases_eq (name_at old q) e) [ inl was ↦ is ∙ sym was | inr wasnt ↦ partly_kept e 0 old ns q r.partly wasnt ]

-- when none is left they are gone
module _ (s : Size) (old : List ℕ) (before : Colouring) (e : ℕ) (ns : List ℕ) (after : Colouring) (left : ℕ) (r : Releasing s old before e ns after left) (living : e ≢ 0)
    (same : length ns ≡ length old) (none : (k : ℕ) → k < length ns → name_at ns k ≢ e) where
  -- the name stands nowhere, so all its points are empty
  no_more : (k : ℕ) → name_at ns k ≢ e
  no_more k is = elim (cases_lt k (length ns)) [
    | inl inside ↦ none k inside is
    | inr past ↦ living (sym is ∙ get_or_past ns k 0 past)
  ]

  pub released_names : ns ≡ map (renamed e 0) old
  released_names = partly_whole e 0 old ns living same r.partly (λ k below. no_more k)

  pub released_gone : (q : ℕ) → name_at old q ≡ e → entry_at after q ≡ None
  released_gone q was = r.gone q was (no_more q)

-- a chain of one stone is lost with that on its root
pub lone_lost : (s : Size) (ns : List ℕ) (e : ℕ) (d : Colouring) → length d ≡ point_count s → ((q : ℕ) → point_count s ≤ q → name_at ns q ≡ 0) → IsLiving ns e → stone_count ns e ≡ 1
    → HasLost ns e d (set d (root_of e) None)
lone_lost s ns e d fits ends (living, rooted) one =
    let p = root_of e in
    let whole = one_renamed ns e 0 living living (root_below ns e living rooted) rooted one in
    record {
      fits = length-set d p None;
      gone = λ q is. elim (cases_eq q p) [
        | inl same ↦ ap (entry_at (set d p None)) same ∙ get_or-set_same d p None None (subst (λ n. p < n) (sym fits) (root_on_board s ns e ends living rooted))
        | inr apart ↦ absurd (living (sym is ∙ sym (get_or-set_other ns p q 0 0 apart) ∙ ap (λ xs. name_at xs q) whole ∙ name_renamed e 0 ns q living ∙ renamed_is e 0 _ is))
      ];
      kept = λ q other. elim (cases_eq q p) [
        | inl same ↦ absurd (other (ap (name_at ns) same ∙ rooted))
        | inr apart ↦ get_or-set_other d p q None None apart
      ];
    }

-- ---- the stones of a chain from a point on

-- a stone of the chain on that point is one of them, and one of another isn't
pub stones_from : (ns : List ℕ) (m p : ℕ) → p < length ns → stone_count (drop p ns) m ≡ cond (eqb (name_at ns p) m) 1 0 + stone_count (drop (p + 1) ns) m
unfolding stone_count
stones_from ns m p below = sum_by-drop_more (λ y. cond (eqb y m) 1 0) ns p 0 below

pub stones_here : (ns : List ℕ) (m p : ℕ) → p < length ns → name_at ns p ≡ m → stone_count (drop p ns) m ≡ stone_count (drop (p + 1) ns) m + 1
stones_here ns m p below is =
    let one : ◌≡◌ {A = ℕ} (cond (eqb (name_at ns p) m) 1 0) 1 = ap (λ b. cond b 1 0) (eq-eqb (name_at ns p) m is) in
    omega (arith, stones_from ns m p below, one)

pub stones_not_here : (ns : List ℕ) (m p : ℕ) → p < length ns → name_at ns p ≢ m → stone_count (drop p ns) m ≡ stone_count (drop (p + 1) ns) m
stones_not_here ns m p below other =
    let none : ◌≡◌ {A = ℕ} (cond (eqb (name_at ns p) m) 1 0) 0 = ap (λ b. cond b 1 0) (ne_eqb (name_at ns p) m other) in
    omega (arith, stones_from ns m p below, none)

-- where there are none, no point from there on has the name
pub none_from : (ns : List ℕ) (m p q : ℕ) → stone_count (drop p ns) m ≡ 0 → p ≤ q → q < length ns → name_at ns q ≢ m
none_from ns m p q none from below is =
    let at : p + (q - p) ≡ q = omega (arith, from) in
    none_stones (drop p ns) m none (q - p) (omega (arith, length-drop p ns, from, below)) (get_or-drop p ns (q - p) 0 ∙ ap (name_at ns) at ∙ is)
