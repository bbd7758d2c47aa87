-- Names of chains as they change point by point, and what that does to the counts.
use Rattle.std.proofs.Common.{◌≡◌, ◌≢◌, ℕ, ◌+◌, ◌<◌, ◌≤◌, ◌⊎◌, ◌↔◌, ◌&&◌, List, [], Option, Some, None, Bool, true, false, not, cond, count_by, eqb, set, length}
use Rattle.std.proofs.Common.{inl, inr, sym, ap, subst, ◌∙◌, arith}
use Rattle.std.specs.List.{range_with_len}
use Rattle.std.proofs.lemmas.Bool.{false≢true, cases_eq, cases_Bool, and_from, and_left, and_right, eq-eqb, ne_eqb}
use Rattle.std.proofs.lemmas.List.{get_or-set_same, get_or-set_other}
use Rattle.std.proofs.lemmas.List.FromFn.{length-range_with_len}
use Rattle.std.proofs.lemmas.List.Sums.{count_by-le-length, sum_by-cons}
use Rattle.tt_sgf.specs.declared.size.Size.{Size}
use Rattle.tt_sgf.specs.Sizes.{point_count}
use Rattle.tt_board.specs.declared.counted.play_kind.NeighbourNames.{NeighbourNames}
use Rattle.tt_board.specs.Near.{IsNeighbour}
use Rattle.tt_board.specs.inside.Neighbours.{IsOneOf, ahead, neighbours_there}
use Rattle.tt_board.specs.Decided.{decide_neighbour, decision_test, decision_test_is_exact, decision_test_is_false}
use Rattle.tt_board.specs.inside.Chains.{name_at, Touches, touching, is_liberty, liberty_count, IsEachOnce, AreNear, is_new, count_there, count_beside}
use Rattle.tt_board.proofs.CountLemmas.{same_decided, count_change, count_same, count_both, count_within, in_list}
use Rattle.tt_board.specs.laws.NearLaws.{near_back}
use Rattle.tt_board.proofs.NearLemmas.{in_neighbours}

-- a stone beside p touches it
pub touch_at : (s : Size) (ns : List ℕ) (p m q : ℕ) → IsNeighbour s p q → name_at ns q ≡ m → Touches s ns m p
touch_at s ns p m q near is = (q, near.0, (near, is))

-- a count over a list with a point at its head
count_ahead : (f : ℕ → Bool) (neighbour : Option ℕ) (rest : List ℕ) → count_by f (ahead neighbour rest) ≡ count_there f neighbour + count_by f rest
count_ahead f None rest = omega arith
count_ahead f (Some q) rest = sum_by-cons (λ k. cond (f k) 1 0) q rest

-- the points that pass a test are the points beside p that do
pub beside_counted : (s : Size) (f : ℕ → Bool) (p : ℕ) (a b c d : Option ℕ) → ((q : ℕ) → IsOneOf a b c d q ↔ IsNeighbour s p q) → IsEachOnce (neighbours_there a b c d)
    → count_there f a + count_there f b + count_there f c + count_there f d ≡ count_beside s f p
unfolding count_beside
beside_counted s f p a b c d all once =
    let items = neighbours_there a b c d in
    let sum : count_there f a + count_there f b + count_there f c + count_there f d ≡ count_by f items
    = omega (arith, count_ahead f a (ahead b (ahead c (ahead d []))), count_ahead f b (ahead c (ahead d [])), count_ahead f c (ahead d []), count_ahead f d []) in
    sum
    ∙ sym (count_within f (point_count s) items once (λ q has. ((all q).0 ((in_neighbours a b c d q).0 has)).0))
    ∙ sym (count_same (λ q. f q && decision_test (in_list items q)) (λ q. f q && decision_test (decide_neighbour s p q)) (point_count s)
    (λ k below. ap (λ b. f k && b) (same_decided (in_list items k) (decide_neighbour s p k)
    (λ has. (all k).0 ((in_neighbours a b c d k).0 has)) (λ near. (in_neighbours a b c d k).1 ((all k).1 near)))))

-- a count of liberties is no more than the board has points
pub liberty_count_le : (s : Size) (ns : List ℕ) (m : ℕ) → liberty_count s ns m ≤ point_count s
unfolding liberty_count
liberty_count_le s ns m = subst (λ n. count_by (is_liberty s ns m) (range_with_len 0 (point_count s)) ≤ n) (length-range_with_len 0 (point_count s))
    (count_by-le-length (is_liberty s ns m) (range_with_len 0 (point_count s)))

-- tests of a name
bare_false : (x : ℕ) → x ≢ 0 → eqb x 0 ≡ false
bare_false x h = ne_eqb x 0 h

bare_true : (x : ℕ) → x ≡ 0 → eqb x 0 ≡ true
bare_true x h = eq-eqb x 0 h

-- one point gets another name
module _ (s : Size) (ns : List ℕ) (p x : ℕ) (in_p : p < point_count s) (wide : p < length ns) where
  -- the point has the new name, the others the old ones
  pub at_p : name_at (set ns p x) p ≡ x
  at_p = get_or-set_same ns p x 0 wide

  pub off_p : (k : ℕ) → k ≢ p → name_at (set ns p x) k ≡ name_at ns k
  off_p k apart = get_or-set_other ns p k x 0 apart

  -- chains of other names have the stones that they had
  touch_other : (m q : ℕ) → m ≢ name_at ns p → m ≢ x → decision_test (touching s ns m q) ≡ decision_test (touching s (set ns p x) m q)
  touch_other m q old new = same_decided (touching s ns m q) (touching s (set ns p x) m q)
      (λ t. (t.0, t.1, (t.2.0, off_p t.0 (λ e. old (sym t.2.1 ∙ ap (name_at ns) e)) ∙ t.2.1)))
      (λ t. elim (cases_eq t.0 p) [
        | inl at ↦ absurd (new (sym t.2.1 ∙ ap (name_at (set ns p x)) at ∙ at_p))
        | inr away ↦ (t.0, t.1, (t.2.0, sym (off_p t.0 away) ∙ t.2.1))
      ])

  -- their liberties change at the point alone
  pub count_changed : (m : ℕ) → m ≢ name_at ns p → m ≢ x
      → liberty_count s (set ns p x) m + cond (is_liberty s ns m p) 1 0 ≡ liberty_count s ns m + cond (is_liberty s (set ns p x) m p) 1 0
  unfolding liberty_count
  count_changed m old new = (count_change (is_liberty s ns m) (is_liberty s (set ns p x) m) (point_count s) p (λ k below away.
      ap (λ y. eqb y 0 && decision_test (touching s ns m k)) (sym (off_p k away)) ∙ ap (λ b. eqb (name_at (set ns p x) k) 0 && b) (touch_other m k old new))).0 in_p

  -- an emptied point is a liberty of each other chain beside it
  pub count_emptied : (m : ℕ) → m ≢ name_at ns p → m ≢ x → name_at ns p ≢ 0 → x ≡ 0
      → liberty_count s (set ns p x) m ≡ liberty_count s ns m + cond (decision_test (touching s (set ns p x) m p)) 1 0
  count_emptied m old new stone bare =
      let was : ◌≡◌ {A = ℕ} (cond (is_liberty s ns m p) 1 0) 0 = ap (λ b. cond b 1 0) (and_left (eqb (name_at ns p) 0) (decision_test (touching s ns m p)) (bare_false (name_at ns p) stone)) in
      let now : ◌≡◌ {A = ℕ} (cond (is_liberty s (set ns p x) m p) 1 0) (cond (decision_test (touching s (set ns p x) m p)) 1 0) =
      ap (λ b. cond (b && decision_test (touching s (set ns p x) m p)) 1 0) (bare_true _ (at_p ∙ bare)) in
      omega (arith, count_changed m old new, was, now)

  -- a point that is filled is a liberty no more of each other chain beside it
  pub count_filled : (m : ℕ) → m ≢ name_at ns p → m ≢ x → name_at ns p ≡ 0 → x ≢ 0
      → liberty_count s (set ns p x) m + cond (decision_test (touching s ns m p)) 1 0 ≡ liberty_count s ns m
  count_filled m old new bare stone =
      let was : ◌≡◌ {A = ℕ} (cond (is_liberty s ns m p) 1 0) (cond (decision_test (touching s ns m p)) 1 0) =
      ap (λ b. cond (b && decision_test (touching s ns m p)) 1 0) (bare_true (name_at ns p) bare) in
      let now : ◌≡◌ {A = ℕ} (cond (is_liberty s (set ns p x) m p) 1 0) 0 =
      ap (λ b. cond b 1 0) (and_left (eqb (name_at (set ns p x) p) 0) (decision_test (touching s (set ns p x) m p)) (bare_false _ (λ e. stone (sym at_p ∙ e)))) in
      omega (arith, count_changed m old new, was, now)

  -- the liberties of a chain with one more stone are its own, and the new ones of the stone
  pub count_joined : name_at ns p ≢ 0 → x ≢ 0 → name_at ns p ≢ x → liberty_count s (set ns p x) x ≡ liberty_count s ns x + count_beside s (is_new s ns x) p
  unfolding liberty_count count_beside
  count_joined stone living other =
      count_both (is_liberty s ns x) (λ q. is_new s ns x q && decision_test (decide_neighbour s p q)) (is_liberty s (set ns p x) x) (point_count s) (λ k below. each k below)
    where
      away : (k : ℕ) → name_at ns k ≡ 0 → k ≢ p
      away k bare same = stone (sym (ap (name_at ns) same) ∙ bare)

      each : (k : ℕ) → k < point_count s → ((is_liberty s (set ns p x) x k ≡ is_liberty s ns x k) × ((is_new s ns x k && decision_test (decide_neighbour s p k)) ≡ false))
          ⊎ ((is_liberty s (set ns p x) x k ≡ true) × (is_liberty s ns x k ≡ false) × ((is_new s ns x k && decision_test (decide_neighbour s p k)) ≡ true))
      each k below = elim (cases_eq (name_at ns k) 0) [
        | inr filled ↦
            let old = bare_false (name_at ns k) filled in
            let new : eqb (name_at (set ns p x) k) 0 ≡ false = bare_false _ (elim (cases_eq k p) [
              | inl at ↦ λ e. living (sym at_p ∙ ap (name_at (set ns p x)) (sym at) ∙ e)
              | inr apart ↦ λ e. filled (sym (off_p k apart) ∙ e)
            ]) in
            inl (
              and_left _ (decision_test (touching s (set ns p x) x k)) new ∙ sym (and_left _ (decision_test (touching s ns x k)) old),
              and_left (is_new s ns x k) (decision_test (decide_neighbour s p k)) (and_left _ (not (decision_test (touching s ns x k))) old),
            )
        | inl bare ↦
            let old = bare_true (name_at ns k) bare in
            let new : eqb (name_at (set ns p x) k) 0 ≡ true = bare_true _ (off_p k (away k bare) ∙ bare) in
            elim (cases_Bool (decision_test (touching s ns x k))) [
              | inl on ↦
                  let t = (decision_test_is_exact (touching s ns x k)).0 on in
                  let on' : decision_test (touching s (set ns p x) x k) ≡ true = (decision_test_is_exact (touching s (set ns p x) x k)).1
                  (t.0, t.1, (t.2.0, off_p t.0 (λ e. other (sym (ap (name_at ns) e) ∙ t.2.1)) ∙ t.2.1)) in
                  inl (and_from _ _ new on' ∙ sym (and_from _ _ old on), and_left (is_new s ns x k) (decision_test (decide_neighbour s p k)) (and_right _ _ (ap not on)))
              | inr off ↦ elim (cases_Bool (decision_test (decide_neighbour s p k))) [
                | inl near ↦
                    let back = near_back s p k in_p ((decision_test_is_exact (decide_neighbour s p k)).0 near) in
                    let on' : decision_test (touching s (set ns p x) x k) ≡ true = (decision_test_is_exact (touching s (set ns p x) x k)).1 (p, in_p, (back, at_p)) in
                    inr (and_from _ _ new on', and_right _ _ off, and_from (is_new s ns x k) (decision_test (decide_neighbour s p k)) (and_from _ _ old (ap not off)) near)
                | inr far ↦
                    let off' : decision_test (touching s (set ns p x) x k) ≡ false = decision_test_is_false (touching s (set ns p x) x k) (λ t. elim (cases_eq t.0 p) [
                      | inl at ↦ false≢true (sym far ∙ (decision_test_is_exact (decide_neighbour s p k)).1 (near_back s k p below (subst (λ y. IsNeighbour s k y) at t.2.0)))
                      | inr apart ↦ false≢true (sym off ∙ (decision_test_is_exact (touching s ns x k)).1 (t.0, t.1, (t.2.0, sym (off_p t.0 apart) ∙ t.2.1)))
                    ]) in
                    inl (and_right _ _ off' ∙ sym (and_right _ _ off), and_right (is_new s ns x k) (decision_test (decide_neighbour s p k)) far)
              ]
            ]
      ]

  -- the liberties of a new chain of one stone are the empty points beside it
  pub count_alone : x ≢ 0 → ((k : ℕ) → name_at ns k ≢ x) → liberty_count s (set ns p x) x ≡ count_beside s (λ q. eqb (name_at (set ns p x) q) 0) p
  unfolding liberty_count count_beside
  count_alone living fresh =
      count_same (λ q. eqb (name_at (set ns p x) q) 0 && decision_test (decide_neighbour s p q)) (is_liberty s (set ns p x) x) (point_count s) (λ k below.
      ap (λ b. eqb (name_at (set ns p x) k) 0 && b) (same_decided (decide_neighbour s p k) (touching s (set ns p x) x k)
      (λ near. (p, in_p, (near_back s p k in_p near, at_p)))
      (λ t. elim (cases_eq t.0 p) [
        | inl at ↦ near_back s k p below (subst (λ y. IsNeighbour s k y) at t.2.0)
        | inr apart ↦ absurd (fresh t.0 (sym (off_p t.0 apart) ∙ t.2.1))
      ])))

  -- a point isn't beside itself
  away_from : (k : ℕ) → IsNeighbour s p k → k ≢ p
  away_from k near same = itself (subst (λ y. IsNeighbour s p y) same near)
    where
      itself : IsNeighbour s p p → ⊥
      itself (_, inl (_, inl e)) = omega (arith, e)
      itself (_, inl (_, inr e)) = omega (arith, e)
      itself (_, inr (_, inl e)) = omega (arith, e)
      itself (_, inr (_, inr e)) = omega (arith, e)

  -- so the names beside it stay
  pub near_off : (near : NeighbourNames) → AreNear s ns p near → AreNear s (set ns p x) p near
  unfolding count_beside
  near_off near n = record {
    touching = λ m apart. (
      λ one. let t = (n.touching m apart).0 one in (t.0, t.1, (t.2.0, off_p t.0 (away_from t.0 t.2.0) ∙ t.2.1)),
      λ t. (n.touching m apart).1 (t.0, t.1, (t.2.0, sym (off_p t.0 (away_from t.0 t.2.0)) ∙ t.2.1)),
    );
    bare = n.bare
        ∙ sym (count_same (λ q. eqb (name_at ns q) 0 && decision_test (decide_neighbour s p q)) (λ q. eqb (name_at (set ns p x) q) 0 && decision_test (decide_neighbour s p q)) (point_count s)
        (λ k below. elim (cases_eq k p) [
          | inr apart ↦ ap (λ y. eqb y 0 && decision_test (decide_neighbour s p k)) (sym (off_p k apart))
          | inl at ↦
              let far : decision_test (decide_neighbour s p k) ≡ false = decision_test_is_false (decide_neighbour s p k) (λ near'. away_from k near' at) in
              and_right _ _ far ∙ sym (and_right _ _ far)
        ]));
    roots = n.roots;
  }
