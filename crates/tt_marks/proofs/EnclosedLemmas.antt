-- Enclosed groups, and the best of those that may be meant.
use Rattle.std.proofs.Common.{◌≡◌, ◌≢◌, ◌⊎◌, ◌↔◌, ◌<◌, ◌≤◌, ◌+◌, ℕ, Bool, Option, Some, None, true, false, inl, inr, refl, sym, ◌∙◌, subst, arith}
use Rattle.std.proofs.lemmas.Bool.{cases_lt}
use Rattle.std.specs.Prelude.{IfSome, MatchOption}
use Rattle.std.specs.Cmp.{nat_cmp_total}
use Rattle.std.specs.FinSet as set
use Rattle.tt_sgf.specs.declared.size.Size.{Size}
use Rattle.tt_sgf.specs.Sizes.{point_count}
use Rattle.tt_board.specs.declared.Colour.{Colour}
use Rattle.tt_board.specs.Position.{Colouring}
use Rattle.tt_board.specs.Reach.{entry_at}
use Rattle.tt_board.specs.Stones.{IsSetOnBoard, PointNumberSet}
use Rattle.tt_marks.specs.declared.proposals.Candidate.{Candidate}
use Rattle.tt_marks.specs.Reached.{Has}
use Rattle.tt_marks.specs.Walls.{IsClosed, IsEnclosedGroup, IsInner, IsOfInnerGroup, IsRegion, IsWalledIn, IsWholeWall}

both_ways : (a b : Bool) → (a ≡ true → b ≡ true) → (b ≡ true → a ≡ true) → a ≡ b
both_ways true b there back = sym (there refl)
both_ways false true there back = back refl
both_ways false false there back = refl

same_points : (s : Size) (xs ys : PointNumberSet) → IsSetOnBoard s xs → IsSetOnBoard s ys
    → ((p : ℕ) → p < point_count s → Has (set.contains xs) p ↔ Has (set.contains ys) p) → xs ≡ ys
same_points s xs ys on_x on_y same = set.same_set nat_cmp_total set.nat_cmp-IsAntisymmetric xs ys
    (λ p. both_ways (set.contains xs p) (set.contains ys p) (λ h. (same p (on_x p h)).0 h) (λ h. (same p (on_y p h)).1 h))

-- a group has one whole wall, and one region
one_region : (s : Size) (c : Colouring) (k : Colour) (q : ℕ) (wall region : PointNumberSet) → IsSetOnBoard s wall → IsSetOnBoard s region
    → IsWholeWall s c k q (set.contains wall) → IsRegion s c k q (set.contains wall) (set.contains region)
    → (w r : PointNumberSet) → IsSetOnBoard s w → IsSetOnBoard s r → IsWholeWall s c k q (set.contains w) → IsRegion s c k q (set.contains w) (set.contains r)
    → (w ≡ wall) × (r ≡ region)
one_region s c k q wall region wall_on on whole within w r w_on r_on w_whole r_within =
    let walls : w ≡ wall = same_points s w wall w_on wall_on
    (λ p in_p. (λ h. whole.whole (set.contains w) w_whole.is_wall p in_p h, λ h. w_whole.whole (set.contains wall) whole.is_wall p in_p h)) in
    let its = subst (λ (x : PointNumberSet). IsRegion s c k q (set.contains x) (set.contains r)) walls r_within in
    (walls, same_points s r region r_on on (λ p in_p. (λ h. (within p in_p).1 ((its p in_p).0 h), λ h. (its p in_p).1 ((within p in_p).0 h))))

pub only_enclosed : (s : Size) (c : Colouring) (k : Colour) (q : ℕ) (wall region : PointNumberSet) → IsSetOnBoard s wall → IsSetOnBoard s region
    → IsWholeWall s c k q (set.contains wall) → IsRegion s c k q (set.contains wall) (set.contains region)
    → (points : PointNumberSet) → IsEnclosedGroup s c k q points → IsClosed wall region × (points ≡ region)
only_enclosed s c k q wall region wall_on on whole within points e =
    let one = one_region s c k q wall region wall_on on whole within e.wall points e.wall_on_board e.on_board e.whole e.within in
    (subst (λ (r : PointNumberSet). IsClosed wall r) one.1 (subst (λ (w : PointNumberSet). IsClosed w points) one.0 e.closed), one.1)

-- so where it is walled in, that wall has a stone, and that region is inner
pub walled_in_by : (s : Size) (c : Colouring) (k : Colour) (q : ℕ) (wall region : PointNumberSet) → IsSetOnBoard s wall → IsSetOnBoard s region
    → IsWholeWall s c k q (set.contains wall) → IsRegion s c k q (set.contains wall) (set.contains region)
    → IsWalledIn s c k q → (0 < set.len wall) × IsInner s c region
walled_in_by s c k q wall region wall_on on whole within h =
    let one = one_region s c k q wall region wall_on on whole within h.wall h.region h.wall_on_board h.on_board h.whole h.within in
    (subst (λ (w : PointNumberSet). 0 < set.len w) one.0 h.has_stone, subst (λ (r : PointNumberSet). IsInner s c r) one.1 h.inner)

-- so where that region isn't closed and inner, none is
pub not_inner : (s : Size) (c : Colouring) (k : Colour) (q : ℕ) (wall region : PointNumberSet) → entry_at c q ≡ Some k
    → ((points : PointNumberSet) → IsEnclosedGroup s c k q points → IsClosed wall region × (points ≡ region))
    → (IsClosed wall region → IsInner s c region → ⊥) → IsOfInnerGroup s c q → ⊥
not_inner s c k q wall region stands only never h =
    let same : h.0 ≡ k = let e : Some h.0 ≡ Some k = sym h.2.stands ∙ stands in cc in
    let found = only h.1 (subst (λ (x : Colour). IsEnclosedGroup s c x q h.1) same h.2) in
    never found.0 (subst (λ (r : PointNumberSet). IsInner s c r) found.1 h.3)

-- of two candidates one is taken
abbrev pub IsOneOf : Option Candidate → Option Candidate → Option Candidate → Type 0
IsOneOf first second made = MatchOption made ((first ≡ None) × (second ≡ None)) (λ m. (first ≡ Some m) ⊎ (second ≡ Some m))

module _ (s : Size) (c : Colouring) where
  -- the best of the stones before number n is of an inner group, or none of them is
  abbrev pub IsBestBefore : ℕ → Option Candidate → Type 0
  IsBestBefore n best = MatchOption best ((q : ℕ) → q < n → IsOfInnerGroup s c q → ⊥) (λ m. IsOfInnerGroup s c m.stone)

  pub best_more : (n : ℕ) (best next made : Option Candidate) → IsBestBefore n best
      → MatchOption next (IsOfInnerGroup s c n → ⊥) (λ m. IsOfInnerGroup s c m.stone) → IsOneOf best next made → IsBestBefore (n + 1) made
  best_more n best next None before one taken = λ q lt h. elim (cases_lt q n) [
    | inl below ↦ subst (λ (x : Option Candidate). IsBestBefore n x) taken.0 before q below h
    | inr past ↦
        let same : q ≡ n = omega arith in
        subst (λ (x : Option Candidate). MatchOption x (IsOfInnerGroup s c n → ⊥) (λ m. IsOfInnerGroup s c m.stone)) taken.1 one
        (subst (λ (x : ℕ). IsOfInnerGroup s c x) same h)
  ]
  best_more n best next (Some m) before one taken = elim taken [
    | inl old ↦ subst (λ (x : Option Candidate). IsBestBefore n x) old before
    | inr fresh ↦ subst (λ (x : Option Candidate). MatchOption x (IsOfInnerGroup s c n → ⊥) (λ m. IsOfInnerGroup s c m.stone)) fresh one
  ]

  -- where no stone stands there is no more
  pub best_past_empty : (n : ℕ) (best : Option Candidate) → entry_at c n ≡ None → IsBestBefore n best → IsBestBefore (n + 1) best
  best_past_empty n None bare before = λ q lt h. elim (cases_lt q n) [
    | inl below ↦ before q below h
    | inr past ↦
        let same : q ≡ n = omega arith in
        let at : IsOfInnerGroup s c n = subst (λ (x : ℕ). IsOfInnerGroup s c x) same h in
        absurd (let e : Some at.0 ≡ None = sym at.2.stands ∙ bare in cc)
  ]
  best_past_empty n (Some m) bare before = before

  -- all stones were tried
  pub best_whole : (n : ℕ) (best : Option Candidate) → point_count s ≤ n → IsBestBefore n best
      → MatchOption best ((q : ℕ) → IsOfInnerGroup s c q → ⊥) (λ m. IsOfInnerGroup s c m.stone)
  best_whole n None all before = λ q h. before q (omega (arith, all, h.2.is_point)) h
  best_whole n (Some m) all before = before

  -- a stone of an inner group may be proposed, and any stone where there is no such group
  abbrev pub IsProposed : ℕ → Type 0
  IsProposed p = (p < point_count s) × (entry_at c p ≢ None) × ((q : ℕ) → IsOfInnerGroup s c q → IsOfInnerGroup s c p)

  pub inner_proposed : (p : ℕ) → IsOfInnerGroup s c p → IsProposed p
  inner_proposed p h = (h.2.is_point, λ bare. absurd (let e : Some h.0 ≡ None = sym h.2.stands ∙ bare in cc), λ q other. h)

  pub open_proposed : (found : Option ℕ) → ((q : ℕ) → IsOfInnerGroup s c q → ⊥) → IfSome found (λ p. (p < point_count s) × (entry_at c p ≢ None))
      → MatchOption found ((q : ℕ) → IsOfInnerGroup s c q → ⊥) IsProposed
  open_proposed None never on = never
  open_proposed (Some p) never on = (on.0, on.1, λ q h. absurd (never q h))
