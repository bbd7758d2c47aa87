-- Lemmas on walls and what is within.
use Rattle.std.proofs.Common.{◌≡◌, ℕ, ◌<◌, ◌⊎◌, ◌↔◌, ◌&&◌, ◌||◌, not, count_by, List, [], ◌∷◌, None, Bool, true, false, All, inl, inr, refl, sym, ap, ◌∙◌, arith}
use Rattle.std.specs.List.{range_with_len}
use Rattle.std.proofs.lemmas.Bool.{true≢false, false≢true, cases_eq, cases_lt, cases_Bool, and_parts, and_from, not_from_false}
use Rattle.std.proofs.lemmas.List.Elements.{All-head, All-tail}
use Rattle.tt_sgf.specs.declared.size.Size.{Size}
use Rattle.tt_sgf.specs.declared.bits.TheConstants.{BITS}
use Rattle.tt_sgf.specs.Sizes.{point_count}
use Rattle.tt_sgf.specs.MachineWords.{AreBitsOf, bit_in}
use Rattle.tt_board.specs.declared.Colour.{Colour}
use Rattle.tt_board.specs.Around.{AreOn, IsBesideSome}
use Rattle.tt_board.specs.Play.{is_stone_of, other}
use Rattle.tt_board.specs.Position.{Colouring}
use Rattle.tt_board.specs.Reach.{IsPath, entry_at, path_end}
use Rattle.tt_board.specs.laws.NearLaws.{near_back}
use Rattle.tt_board.proofs.CountLemmas.{count_some, count_both}
use Rattle.tt_marks.specs.Reached.{Has, IsReached, PointTest, first, next}
use Rattle.tt_marks.specs.Walls.{HasOuterLiberty, HasStone, IsBesideOutside, IsOfGroup, IsRegion, IsWall, IsWholeWall, IsWithin}
use Rattle.tt_marks.proofs.ReachedLemmas.{reached_wider, small}

-- ---- bits

pub both_of : (a b : Bool) → (a && not b) ≡ true → (a ≡ true) × (b ≡ true → ⊥)
both_of true true h = absurd (false≢true h)
both_of true false h = (refl, λ e. false≢true e)
both_of false b h = absurd (false≢true h)

pub off_of : (b : Bool) → (b ≡ true → ⊥) → b ≡ false
off_of b never = elim (cases_Bool b) [
  | inl on ↦ absurd (never on)
  | inr off ↦ off
]

pub of_both : (a b : Bool) → a ≡ true → (b ≡ true → ⊥) → (a && not b) ≡ true
of_both a b on never = and_from a (not b) on (ap not (off_of b never))

-- ---- what is within

-- the points that are reached over those of the board without the stones, from one alone
pub within_is : (s : Size) (q : ℕ) (all stones free alone inside : List ℕ) → ((p : ℕ) → p < point_count s → Has (bit_in all) p)
    → ((p : ℕ) → p < BITS → bit_in free p ≡ (bit_in all p && not (bit_in stones p))) → ((p : ℕ) → p < point_count s → Has (bit_in alone) p ↔ (p ≡ q))
    → ((p : ℕ) → p < point_count s → Has (bit_in inside) p ↔ IsReached s (Has (bit_in free)) (Has (bit_in alone)) p)
    → (p : ℕ) → p < point_count s → Has (bit_in inside) p ↔ IsWithin s q (bit_in stones) p
within_is s q all stones free alone inside on is one reach p in_p = (
  λ h. reached_wider s (Has (bit_in free)) (Has (bit_in alone)) (λ r. bit_in stones r ≡ false) (λ r. r ≡ q)
      (λ r in_r f. off_of (bit_in stones r) (both_of (bit_in all r) (bit_in stones r) (sym (is r (small s r in_r)) ∙ f)).1) (λ r in_r a. (one r in_r).0 a) p ((reach p in_p).0 h),
  λ h. (reach p in_p).1 (reached_wider s (λ r. bit_in stones r ≡ false) (λ r. r ≡ q) (Has (bit_in free)) (Has (bit_in alone))
      (λ r in_r f. is r (small s r in_r) ∙ of_both (bit_in all r) (bit_in stones r) (on r in_r) (λ h. true≢false (sym h ∙ f))) (λ r in_r a. (one r in_r).1 a) p h),
)

-- a path that avoids the wall stays within
pub stays_within : (s : Size) (q : ℕ) (wall : PointTest) (p : ℕ) (path : List ℕ) → p < point_count s → IsWithin s q wall p
    → IsPath s p path → All (λ r. wall r ≡ false) path → IsWithin s q wall (path_end p path)
stays_within s q wall p [] in_p h linked avoids = h
stays_within s q wall p (r ∷ rest) in_p h linked avoids =
    stays_within s q wall r rest linked.0.0 (next r p linked.0.0 (All-head (λ x. wall x ≡ false) r rest avoids) (near_back s p r in_p linked.0) h)
    linked.1 (All-tail (λ x. wall x ≡ false) r rest avoids)

-- ---- sets that are made of others

-- bits that stay 0
and_off : (a b : Bool) → a ≡ false → (a && b) ≡ false
and_off true b h = absurd (true≢false h)
and_off false b h = refl

and_off_right : (a b : Bool) → b ≡ false → (a && b) ≡ false
and_off_right true b h = h
and_off_right false b h = refl

or_off : (a b : Bool) → a ≡ false → b ≡ false → (a || b) ≡ false
or_off true b h k = absurd (true≢false h)
or_off false b h k = k

pub minus_on : (s : Size) (own other made : List ℕ) → AreOn s own → ((q : ℕ) → q < BITS → bit_in made q ≡ (bit_in own q && not (bit_in other q))) → AreOn s made
minus_on s own other made on is q past lt = is q lt ∙ and_off (bit_in own q) (not (bit_in other q)) (on q past lt)

pub and_on : (s : Size) (own other made : List ℕ) → AreOn s own → ((q : ℕ) → q < BITS → bit_in made q ≡ (bit_in own q && bit_in other q)) → AreOn s made
and_on s own other made on is q past lt = is q lt ∙ and_off (bit_in own q) (bit_in other q) (on q past lt)

pub or_on : (s : Size) (own other made : List ℕ) → AreOn s own → AreOn s other → ((q : ℕ) → q < BITS → bit_in made q ≡ (bit_in own q || bit_in other q)) → AreOn s made
or_on s own other made on too is q past lt = is q lt ∙ or_off (bit_in own q) (bit_in other q) (on q past lt) (too q past lt)

-- ---- stones and empty points

-- the stones of a colour are those of the board
pub stones_on : (s : Size) (words : List ℕ) (test : ℕ → Bool) → AreBitsOf words (point_count s) test → AreOn s words
stones_on s words test b q past lt = b.behind q past lt

-- one bit alone
pub alone_is : (s : Size) (q : ℕ) (none made : List ℕ) → ((p : ℕ) → p < BITS → bit_in none p ≡ false) → bit_in made q ≡ true
    → ((p : ℕ) → p < BITS → (p ≡ q → ⊥) → bit_in made p ≡ bit_in none p) → (p : ℕ) → p < point_count s → Has (bit_in made) p ↔ (p ≡ q)
alone_is s q none made off on rest p in_p = (
  λ h. elim (cases_eq p q) [
    | inl same ↦ same
    | inr apart ↦ absurd (true≢false (sym h ∙ rest p (small s p in_p) apart ∙ off p (small s p in_p)))
  ],
  λ same. ap (bit_in made) same ∙ on,
)

pub alone_on : (s : Size) (q : ℕ) (none made : List ℕ) → q < point_count s → ((p : ℕ) → p < BITS → bit_in none p ≡ false)
    → ((p : ℕ) → p < BITS → (p ≡ q → ⊥) → bit_in made p ≡ bit_in none p) → AreOn s made
alone_on s q none made in_q off rest p past lt = rest p lt (λ same. omega arith) ∙ off p lt

-- ---- groups, and stones that can't be taken

-- what is reached over the stones of a colour from one alone is its group
pub group_is : (s : Size) (c : Colouring) (k : Colour) (q : ℕ) (stones alone made : List ℕ) → AreBitsOf stones (point_count s) (λ p. is_stone_of (entry_at c p) k)
    → ((p : ℕ) → p < point_count s → Has (bit_in alone) p ↔ (p ≡ q)) → ((p : ℕ) → p < point_count s → Has (bit_in made) p ↔ IsReached s (Has (bit_in stones)) (Has (bit_in alone)) p)
    → (p : ℕ) → p < point_count s → Has (bit_in made) p ↔ IsOfGroup s c k q p
group_is s c k q stones alone made b one reach p in_p = (
  λ h. reached_wider s (Has (bit_in stones)) (Has (bit_in alone)) (HasStone s c k) (λ r. r ≡ q)
      (λ r in_r f. sym (b.below r in_r (small s r in_r)) ∙ f) (λ r in_r a. (one r in_r).0 a) p ((reach p in_p).0 h),
  λ h. (reach p in_p).1 (reached_wider s (HasStone s c k) (λ r. r ≡ q) (Has (bit_in stones)) (Has (bit_in alone)) (λ r in_r f. b.below r in_r (small s r in_r) ∙ f) (λ r in_r a. (one r in_r).1 a) p h),
)

-- what is reached over the stones of a colour from those beside an empty point that isn't inside
pub safe_is : (s : Size) (c : Colouring) (k : Colour) (stones empties inside liberties near begun made : List ℕ) → AreBitsOf stones (point_count s) (λ p. is_stone_of (entry_at c p) k)
    → ((p : ℕ) → p < point_count s → Has (bit_in empties) p ↔ (entry_at c p ≡ None)) → ((q : ℕ) → q < BITS → bit_in liberties q ≡ (bit_in empties q && not (bit_in inside q)))
    → ((p : ℕ) → p < point_count s → Has (bit_in near) p ↔ IsBesideSome s liberties p) → ((q : ℕ) → q < BITS → bit_in begun q ≡ (bit_in near q && bit_in stones q))
    → ((p : ℕ) → p < point_count s → Has (bit_in made) p ↔ IsReached s (Has (bit_in stones)) (Has (bit_in begun)) p)
    → (p : ℕ) → p < point_count s → Has (bit_in made) p ↔ HasOuterLiberty s c k (Has (bit_in inside)) p
safe_is s c k stones empties inside liberties near begun made b empty_are liberties_are near_are begun_are reach p in_p = (
  λ h. reached_wider s (Has (bit_in stones)) (Has (bit_in begun)) (HasStone s c k) (IsBesideOutside s c k (Has (bit_in inside))) stone_of liberty_of p ((reach p in_p).0 h),
  λ h. (reach p in_p).1 (reached_wider s (HasStone s c k) (IsBesideOutside s c k (Has (bit_in inside))) (Has (bit_in stones)) (Has (bit_in begun)) of_stone of_liberty p h),
)
  where
    stone_of : (r : ℕ) → r < point_count s → Has (bit_in stones) r → HasStone s c k r
    stone_of r in_r f = sym (b.below r in_r (small s r in_r)) ∙ f

    of_stone : (r : ℕ) → r < point_count s → HasStone s c k r → Has (bit_in stones) r
    of_stone r in_r f = b.below r in_r (small s r in_r) ∙ f

    liberty_of : (r : ℕ) → r < point_count s → Has (bit_in begun) r → IsBesideOutside s c k (Has (bit_in inside)) r
    liberty_of r in_r f =
        let two = and_parts (bit_in near r) (bit_in stones r) (sym (begun_are r (small s r in_r)) ∙ f) in
        let beside = (near_are r in_r).0 two.0 in
        let free = both_of (bit_in empties beside.0) (bit_in inside beside.0) (sym (liberties_are beside.0 (small s beside.0 beside.1.0)) ∙ beside.2) in
        (stone_of r in_r two.1, (beside.0, beside.1, (empty_are beside.0 beside.1.0).0 free.0, free.1))

    of_liberty : (r : ℕ) → r < point_count s → IsBesideOutside s c k (Has (bit_in inside)) r → Has (bit_in begun) r
    of_liberty r in_r h =
        let e = h.1 in
        let free : Has (bit_in liberties) e.0 = liberties_are e.0 (small s e.0 e.1.0) ∙ of_both (bit_in empties e.0) (bit_in inside e.0) ((empty_are e.0 e.1.0).1 e.2) e.3 in
        begun_are r (small s r in_r) ∙ and_from (bit_in near r) (bit_in stones r) ((near_are r in_r).1 (e.0, e.1, free)) (of_stone r in_r h.0)

-- ---- the whole wall

-- with more stones less is within
within_fewer : (s : Size) (q : ℕ) (stones more : PointTest) → ((p : ℕ) → p < point_count s → Has stones p → Has more p) → (p : ℕ) → IsWithin s q more p → IsWithin s q stones p
within_fewer s q stones more wider = reached_wider s (λ r. more r ≡ false) (λ r. r ≡ q) (λ r. stones r ≡ false) (λ r. r ≡ q)
    (λ r in_r f. off_of (stones r) (λ h. true≢false (sym (wider r in_r h) ∙ f))) (λ r in_r e. e)

-- and where less is inside more is outside
pub outside_more : (s : Size) (c : Colouring) (k : Colour) (IsInside IsLess : ℕ → Type 0) → ((e : ℕ) → e < point_count s → IsLess e → IsInside e)
    → (p : ℕ) → HasOuterLiberty s c k IsInside p → HasOuterLiberty s c k IsLess p
outside_more s c k IsInside IsLess fewer = reached_wider s (HasStone s c k) (IsBesideOutside s c k IsInside) (HasStone s c k) (IsBesideOutside s c k IsLess)
    (λ r in_r f. f) (λ r in_r h. (h.0, (h.1.0, h.1.1, h.1.2, λ l. h.1.3 (fewer h.1.0 h.1.1.0 l))))

-- what has a liberty outside is a stone
pub stone_of_liberty : (s : Size) (c : Colouring) (k : Colour) (IsInside : ℕ → Type 0) (p : ℕ) → HasOuterLiberty s c k IsInside p → HasStone s c k p
stone_of_liberty s c k IsInside p (first _ in_p h) = h.0
stone_of_liberty s c k IsInside p (next _ r in_p h near l) = h

-- what is left so far has the stones of each wall
pub record IsLeft (s : Size) (c : Colouring) (k : Colour) (q : ℕ) (left : List ℕ) : Type 0 where
  pub on_board : AreOn s left
  pub most : (stones : PointTest) → IsWall s c k q stones → (p : ℕ) → p < point_count s → Has stones p → Has (bit_in left) p

pub left_first : (s : Size) (c : Colouring) (k : Colour) (q : ℕ) (left : List ℕ) → AreBitsOf left (point_count s) (λ p. is_stone_of (entry_at c p) (other k)) → IsLeft s c k q left
left_first s c k q left b = record {
  on_board = λ p past lt. b.behind p past lt;
  most = λ stones wall p in_p h. b.below p in_p (small s p in_p) ∙ stone_of_liberty s c (other k) (IsWithin s q stones) p (wall p in_p h);
}

module _ (s : Size) (c : Colouring) (k : Colour) (q : ℕ) (left inside safe gone : List ℕ) (was : IsLeft s c k q left)
    (inside_are : (p : ℕ) → p < point_count s → Has (bit_in inside) p ↔ IsWithin s q (bit_in left) p)
    (safe_are : (p : ℕ) → p < point_count s → Has (bit_in safe) p ↔ HasOuterLiberty s c (other k) (Has (bit_in inside)) p)
    (gone_is : (p : ℕ) → p < BITS → bit_in gone p ≡ (bit_in left p && not (bit_in safe p))) where
  -- where none goes it is the whole wall
  pub all_left : ((p : ℕ) → p < BITS → bit_in gone p ≡ false) → IsWholeWall s c k q (bit_in left)
  all_left none = record {
    is_wall = λ p in_p h. outside_more s c (other k) (Has (bit_in inside)) (IsWithin s q (bit_in left)) (λ e in_e w. (inside_are e in_e).1 w) p ((safe_are p in_p).0 (stays p in_p h));
    whole = was.most;
  }
    where
      stays : (p : ℕ) → p < point_count s → Has (bit_in left) p → Has (bit_in safe) p
      stays p in_p h = elim (cases_Bool (bit_in safe p)) [
        | inl there ↦ there
        | inr out ↦ absurd (true≢false (sym (gone_is p (small s p in_p) ∙ and_from _ _ h (not_from_false _ out)) ∙ none p (small s p in_p)))
      ]

  module _ (made : List ℕ) (made_is : (p : ℕ) → p < BITS → bit_in made p ≡ (bit_in left p && bit_in safe p)) where
    pub left_more : IsLeft s c k q made
    left_more = record {
      on_board = and_on s left safe made was.on_board made_is;
      most = λ stones wall p in_p h.
          made_is p (small s p in_p) ∙ and_from _ _ (was.most stones wall p in_p h)
          ((safe_are p in_p).1 (outside_more s c (other k) (IsWithin s q stones) (Has (bit_in inside))
          (λ e in_e i. within_fewer s q stones (bit_in left) (was.most stones wall) e ((inside_are e in_e).0 i)) p (wall p in_p h)));
    }

    -- and where one goes fewer are left
    pub fewer_left : (p : ℕ) → p < BITS → bit_in gone p ≡ true
        → count_by (bit_in made) (range_with_len 0 (point_count s)) < count_by (bit_in left) (range_with_len 0 (point_count s))
    fewer_left p lt on =
        let in_p : p < point_count s = elim (cases_lt p (point_count s)) [
          | inl below ↦ below
          | inr past ↦ absurd (true≢false (sym (and_parts (bit_in left p) (not (bit_in safe p)) (sym (gone_is p lt) ∙ on)).0 ∙ was.on_board p past lt))
        ] in
        let some = count_some (bit_in gone) (point_count s) p in_p on in
        let sum = count_both (bit_in made) (bit_in gone) (bit_in left) (point_count s)
        (λ r in_r. split (bit_in left r) (bit_in safe r) (bit_in made r) (bit_in gone r) (made_is r (small s r in_r)) (gone_is r (small s r in_r))) in
        omega (arith, some, sum)
      where
        split : (l a m g : Bool) → m ≡ (l && a) → g ≡ (l && not a) → ((l ≡ m) × (g ≡ false)) ⊎ ((l ≡ true) × (m ≡ false) × (g ≡ true))
        split true true m g e f = inl (sym e, f)
        split true false m g e f = inr (refl, e, f)
        split false a m g e f = inl (sym e, f)

-- ---- the region

pub region_is : (s : Size) (c : Colouring) (k : Colour) (q : ℕ) (wall inside its points : List ℕ) → ((p : ℕ) → p < point_count s → Has (bit_in inside) p ↔ IsWithin s q (bit_in wall) p)
    → ((p : ℕ) → p < point_count s → Has (bit_in its) p ↔ IsOfGroup s c k q p) → ((p : ℕ) → p < BITS → bit_in points p ≡ (bit_in inside p && not (bit_in its p)))
    → IsRegion s c k q (bit_in wall) (bit_in points)
region_is s c k q wall inside its points inside_are group_are points_are p in_p = (
  λ h. let two = both_of (bit_in inside p) (bit_in its p) (sym (points_are p (small s p in_p)) ∙ h) in ((inside_are p in_p).0 two.0, λ g. two.1 ((group_are p in_p).1 g)),
  λ h. points_are p (small s p in_p) ∙ of_both (bit_in inside p) (bit_in its p) ((inside_are p in_p).1 h.0) (λ g. h.1 ((group_are p in_p).0 g)),
)

-- ---- another set of the same points

module _ (s : Size) (c : Colouring) (k : Colour) (q : ℕ) (wall other_wall : PointTest) (same : (p : ℕ) → p < point_count s → other_wall p ≡ wall p) where
  same_within : (p : ℕ) → IsWithin s q wall p → IsWithin s q other_wall p
  same_within = within_fewer s q other_wall wall (λ p in_p h. sym (same p in_p) ∙ h)

  back_within : (p : ℕ) → IsWithin s q other_wall p → IsWithin s q wall p
  back_within = within_fewer s q wall other_wall (λ p in_p h. same p in_p ∙ h)

  pub same_wall : IsWholeWall s c k q wall → IsWholeWall s c k q other_wall
  same_wall w = record {
    is_wall = λ p in_p h. outside_more s c (other k) (IsWithin s q wall) (IsWithin s q other_wall) (λ e in_e i. back_within e i) p (w.is_wall p in_p (sym (same p in_p) ∙ h));
    whole = λ stones is p in_p h. same p in_p ∙ w.whole stones is p in_p h;
  }

  pub same_region : (points other_points : PointTest) → ((p : ℕ) → p < point_count s → other_points p ≡ points p) → IsRegion s c k q wall points → IsRegion s c k q other_wall other_points
  same_region points other_points too r p in_p = (
    λ h. let two = (r p in_p).0 (sym (too p in_p) ∙ h) in (same_within p two.0, two.1),
    λ h. too p in_p ∙ (r p in_p).1 (back_within p h.0, h.1),
  )

-- ---- stones in danger

-- the stones without those that have a liberty outside
pub danger_is : (s : Size) (c : Colouring) (k : Colour) (IsInside : ℕ → Type 0) (stones inside safe made : List ℕ) → AreBitsOf stones (point_count s) (λ p. is_stone_of (entry_at c p) k)
    → ((p : ℕ) → p < point_count s → Has (bit_in safe) p ↔ HasOuterLiberty s c k (Has (bit_in inside)) p)
    → ((p : ℕ) → p < point_count s → Has (bit_in inside) p ↔ IsInside p)
    → ((p : ℕ) → p < BITS → bit_in made p ≡ (bit_in stones p && not (bit_in safe p)))
    → (p : ℕ) → p < point_count s → Has (bit_in made) p ↔ (HasStone s c k p × (HasOuterLiberty s c k IsInside p → ⊥))
danger_is s c k IsInside stones inside safe made b safe_are inside_are made_is p in_p = (
  λ h.
      let two = both_of (bit_in stones p) (bit_in safe p) (sym (made_is p (small s p in_p)) ∙ h) in (
        sym (b.below p in_p (small s p in_p)) ∙ two.0,
        λ l. two.1 ((safe_are p in_p).1 (outside_more s c k IsInside (Has (bit_in inside)) (λ e in_e i. (inside_are e in_e).0 i) p l)),
      ),
  λ h.
      made_is p (small s p in_p) ∙ of_both (bit_in stones p) (bit_in safe p) (b.below p in_p (small s p in_p) ∙ h.0)
      (λ on. h.1 (outside_more s c k (Has (bit_in inside)) IsInside (λ e in_e i. (inside_are e in_e).1 i) p ((safe_are p in_p).0 on))),
)

-- of the stones around, those without the ones that have a liberty outside
pub danger_around : (s : Size) (c : Colouring) (k : Colour) (q : ℕ) (stones inside near around safe made : List ℕ)
    → AreBitsOf stones (point_count s) (λ p. is_stone_of (entry_at c p) k)
    → ((p : ℕ) → p < point_count s → Has (bit_in inside) p ↔ IsWithin s q (bit_in stones) p)
    → ((p : ℕ) → p < point_count s → Has (bit_in safe) p ↔ HasOuterLiberty s c k (Has (bit_in inside)) p)
    → ((p : ℕ) → p < BITS → bit_in around p ≡ (bit_in near p && bit_in stones p)) → ((p : ℕ) → p < BITS → bit_in made p ≡ (bit_in around p && not (bit_in safe p)))
    → (p : ℕ) → p < point_count s → Has (bit_in made) p
    → HasStone s c k p × (HasOuterLiberty s c k (IsWithin s q (λ r. is_stone_of (entry_at c r) k)) p → ⊥)
danger_around s c k q stones inside near around safe made b inside_are safe_are around_is made_is p in_p h =
    let two = both_of (bit_in around p) (bit_in safe p) (sym (made_is p (small s p in_p)) ∙ h) in
    let stone = (and_parts (bit_in near p) (bit_in stones p) (sym (around_is p (small s p in_p)) ∙ two.0)).1 in (
      sym (b.below p in_p (small s p in_p)) ∙ stone,
      λ l. two.1 ((safe_are p in_p).1 (outside_more s c k (IsWithin s q (λ r. is_stone_of (entry_at c r) k)) (Has (bit_in inside))
          (λ e in_e i. within_fewer s q (λ r. is_stone_of (entry_at c r) k) (bit_in stones) (λ r in_r on. b.below r in_r (small s r in_r) ∙ on) e ((inside_are e in_e).0 i)) p l)),
    )
