-- Stones that close a wall.
use Rattle.std.proofs.Common.{◌≡◌, ◌<◌, ◌≤◌, ℕ, ◌+◌, ◌&&◌, ◌||◌, not, Bool, List, [], ◌∷◌, ◌++◌, Option, Some, None, true, false, inl, inr, refl, sym, ap, subst, ◌∙◌, arith}
use Rattle.std.proofs.lemmas.List.Elements.{All-nil, All-push}
use Rattle.std.proofs.lemmas.Bool.{and_from, cases_Bool, not_from_false, true≢false, false≢true, cases_lt}
use Rattle.std.specs.Prelude.{All, slice_get}
use Rattle.std.specs.Cmp.{nat_cmp_total}
use Rattle.std.specs.Ordering.{eq_by_cmp, nat_cmp}
use Rattle.std.specs.FinSet as set
use Rattle.tt_sgf.specs.declared.size.Size.{Size}
use Rattle.tt_sgf.specs.Sizes.{point_count}
use Rattle.tt_board.specs.declared.Colour.{Colour}
use Rattle.tt_board.specs.Position.{Colouring, Position}
use Rattle.tt_board.specs.Play.{is_empty, other}
use Rattle.tt_board.specs.Setup.{AllHaveLiberties}
use Rattle.tt_board.specs.Reach.{entry_at}
use Rattle.tt_board.specs.Stones.{IsSetOnBoard, PointNumberSet}
use Rattle.tt_marks.specs.declared.closing_stones.Closing.{Closing}
use Rattle.tt_marks.specs.Walls.{IsClosed, IsInner, IsOfInnerGroup, IsRegion, IsWalledIn, IsWholeWall, empty_set}
use Rattle.tt_marks.specs.Closings.{AreClosings, AreEmptyPoints, AreEnclosing, ClosesWall, EnclosesAlone, with_stones}
use Rattle.tt_marks.proofs.SetLemmas.{has_passing, passing_below}

empty_entry : (x : Option Colour) → is_empty x ≡ true → x ≡ None
empty_entry None h = refl
empty_entry (Some k) h = absurd (false≢true h)

-- where a set leaves nothing when another goes, the other has all of it
pub none_left_out : (points others left : PointNumberSet) → left ≡ set.difference points others → left ≡ set.empty → (p : ℕ)
    → set.contains points p ≡ true → set.contains others p ≡ true
none_left_out points others left is none p h =
    let out : (set.contains points p && not (set.contains others p)) ≡ false =
    sym (set.contains-difference nat_cmp_total points others p) ∙ ap (λ x. set.contains x p) (sym is ∙ none) ∙ set.contains-empty nat_cmp p in
    elim (cases_Bool (set.contains others p)) [
      | inl on ↦ on
      | inr off ↦ absurd (true≢false (sym (and_from (set.contains points p) (not (set.contains others p)) h (not_from_false _ off)) ∙ out))
    ]

-- a point of the empty set is an empty point
pub in_empty_set : (s : Size) (c : Colouring) (p : ℕ) → set.contains (empty_set s c) p ≡ true → (p < point_count s) × (entry_at c p ≡ None)
in_empty_set s c p there =
    let lt = passing_below (λ q. is_empty (entry_at c q)) (point_count s) p there in
    (lt, empty_entry (entry_at c p) (sym (has_passing (λ q. is_empty (entry_at c q)) (point_count s) p lt) ∙ there))

and_not_swap : (a b : Bool) → (a && not (b || false)) ≡ (not b && a)
and_not_swap true true = refl
and_not_swap true false = refl
and_not_swap false true = refl
and_not_swap false false = refl

-- without one point a set has the others
pub without_one : (points alone others : PointNumberSet) (p : ℕ) → alone ≡ set.insert set.empty p → others ≡ set.difference points alone → others ≡ set.remove points p
without_one points alone others p one is = set.same_set nat_cmp_total set.nat_cmp-IsAntisymmetric others (set.remove points p) (λ q.
    let same = eq_by_cmp nat_cmp q p in
    let taken : set.contains alone q ≡ (same || false) =
    ap (λ x. set.contains x q) one ∙ set.contains-insert nat_cmp_total set.empty p q ∙ ap (λ b. same || b) (set.contains-empty nat_cmp q) in
    ap (λ x. set.contains x q) is ∙ set.contains-difference nat_cmp_total points alone q ∙ ap (λ b. set.contains points q && not b) taken
    ∙ and_not_swap (set.contains points q) same ∙ sym (set.contains-remove nat_cmp_total points p q))

-- where the stones enclose the group, it is walled in on the board with them
pub walled_in_there : (s : Size) (c : Colouring) (k j : Colour) (q : ℕ) (stones : PointNumberSet) (b : Position) → j ≡ other k
    → (b ≡ record { size = s; points = with_stones s c j stones }) × AllHaveLiberties s (with_stones s c j stones)
    → AreEnclosing s c k q stones → IsWalledIn b.size b.points k q
walled_in_there s c k j q stones b same made (alive, walled) =
    let on = subst (λ (x : Colour). IsWalledIn s (with_stones s c x stones) k q) (sym same) walled in
    subst (λ (n : Position). IsWalledIn n.size n.points k q) (sym made.0) on

-- where one stone is enough, the group is enclosed on the board with it
pub enclosed_there : (s : Size) (c : Colouring) (k j : Colour) (q p : ℕ) (one : PointNumberSet) (b : Position) → j ≡ other k → one ≡ set.insert set.empty p
    → (b ≡ record { size = s; points = with_stones s c j one }) × AllHaveLiberties s (with_stones s c j one)
    → EnclosesAlone s c k q p → IsOfInnerGroup b.size b.points q
enclosed_there s c k j q p one b same is made (lt, empty, alive, inner) =
    let on = subst (λ (x : Colour). IsOfInnerGroup s (with_stones s c x (set.insert set.empty p)) q) (sym same) inner in
    let placed = subst (λ (x : PointNumberSet). IsOfInnerGroup s (with_stones s c j x) q) (sym is) on in
    subst (λ (n : Position). IsOfInnerGroup n.size n.points q) (sym made.0) placed

module _ (s : Size) (c : Colouring) (k : Colour) (q : ℕ) where
  -- no stone on a point below number n is enough
  abbrev pub NoneBelow : ℕ → Type 0
  NoneBelow n = (p : ℕ) → p < n → EnclosesAlone s c k q p → ⊥

  pub none_more : (n : ℕ) → (EnclosesAlone s c k q n → ⊥) → NoneBelow n → NoneBelow (n + 1)
  none_more n one before p lt = elim (cases_lt p n) [
    | inl below ↦ before p below
    | inr past ↦
        let same : p ≡ n = omega arith in
        subst (λ (x : ℕ). EnclosesAlone s c k q x → ⊥) (sym same) one
  ]

module _ (s : Size) (c : Colouring) (k : Colour) (q : ℕ) (stones : PointNumberSet) where
  -- each stone below number n is needed
  abbrev pub AreNeededBelow : ℕ → Type 0
  AreNeededBelow n = (p : ℕ) → p < n → set.contains stones p ≡ true → AreEnclosing s c k q (set.remove stones p) → ⊥

  abbrev pub AreNeeded : Type 0
  AreNeeded = AreNeededBelow (point_count s)

  pub needed_more : (n : ℕ) → (set.contains stones n ≡ true → AreEnclosing s c k q (set.remove stones n) → ⊥) → AreNeededBelow n → AreNeededBelow (n + 1)
  needed_more n one before p lt h = elim (cases_lt p n) [
    | inl below ↦ before p below h
    | inr past ↦
        let same : p ≡ n = omega arith in
        subst (λ (x : ℕ). set.contains stones x ≡ true → AreEnclosing s c k q (set.remove stones x) → ⊥) (sym same) one h
  ]

-- what is found on the board with the stones
pub closing_is : (s : Size) (c : Colouring) (k j : Colour) (q : ℕ) (stones wall region : PointNumberSet) (b : Position) → entry_at c q ≡ Some k → j ≡ other k → 0 < set.len stones → set.len stones ≤ 3
    → AreEmptyPoints s c stones → (b ≡ record { size = s; points = with_stones s c j stones }) × AllHaveLiberties s (with_stones s c j stones)
    → IsWholeWall b.size b.points k q (set.contains wall) → IsRegion b.size b.points k q (set.contains wall) (set.contains region)
    → IsSetOnBoard b.size wall → IsSetOnBoard b.size region → IsClosed wall region → ((p : ℕ) → set.contains stones p ≡ true → set.contains wall p ≡ true)
    → IsInner b.size b.points region → AreNeeded s c k q stones → (1 < set.len stones → (p : ℕ) → EnclosesAlone s c k q p → ⊥) → ClosesWall s c k q stones region
closing_is s c k j q stones wall region b stands same some few on_empty made whole within wall_on_board on_board closed of_wall inner needed fewest = record {
  stands = stands;
  some = some;
  few = few;
  on_empty = on_empty;
  alive = subst (λ x. AllHaveLiberties s (with_stones s c x stones)) same made.1;
  wall = wall;
  wall_on_board = subst (λ (n : Position). IsSetOnBoard n.size wall) made.0 wall_on_board;
  whole = subst (λ x. IsWholeWall s (with_stones s c x stones) k q (set.contains wall)) same (subst (λ n. IsWholeWall n.size n.points k q (set.contains wall)) made.0 whole);
  within = subst (λ x. IsRegion s (with_stones s c x stones) k q (set.contains wall) (set.contains region)) same
      (subst (λ n. IsRegion n.size n.points k q (set.contains wall) (set.contains region)) made.0 within);
  of_wall = of_wall;
  on_board = subst (λ (n : Position). IsSetOnBoard n.size region) made.0 on_board;
  closed = closed;
  inner = subst (λ x. IsInner s (with_stones s c x stones) region) same (subst (λ n. IsInner n.size n.points region) made.0 inner);
  needed = λ p h. needed p (on_empty p h).0 h;
  fewest = fewest;
}

-- none are closings
pub no_closings : (s : Size) (c : Colouring) (k : Colour) (q : ℕ) → AreClosings s c k q []
no_closings s c k q = (All-nil _, (0, All-nil _))

-- closings by so many stones
abbrev pub AreByCount : ℕ → List Closing → Type 0
AreByCount n = All (λ m. set.len m.stones ≡ n)

pub none_by_count : (n : ℕ) → AreByCount n []
none_by_count n = All-nil _

-- there is none where there is no first
pub none_first : (items : List Closing) (n : ℕ) → slice_get items 0 ≡ None → AreByCount n items
none_first [] n none = none_by_count n
none_first (m ∷ ms) n none = absurd (let e : Some m ≡ None = none in cc)

-- one more by as many stones
pub one_more : (s : Size) (c : Colouring) (k : Colour) (q : ℕ) (before : List Closing) (m : Closing) → AreClosings s c k q before → ClosesWall s c k q m.stones m.region
    → All (λ (x : Closing). set.len x.stones ≡ set.len m.stones) before → AreClosings s c k q (before ++ (m ∷ []))
one_more s c k q before m all closes same = (
  All-push (λ (x : Closing). ClosesWall s c k q x.stones x.region) before m all.0 closes,
  (set.len m.stones, All-push (λ (x : Closing). set.len x.stones ≡ set.len m.stones) before m same refl),
)
