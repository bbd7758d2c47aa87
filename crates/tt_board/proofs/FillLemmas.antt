-- A fill over sets of points that are kept as bits: how it begins, goes on and ends.
use Rattle.std.proofs.Common.{◌≡◌, ◌≢◌, ℕ, ◌-◌, ◌<◌, ◌≤◌, ◌⊎◌, ◌↔◌, Bool, true, false, not, ◌&&◌, ◌||◌, List, length, count_by, Option, Some, None, inl, inr, refl, sym, ◌∙◌, arith}
use Rattle.std.specs.List.{range_with_len}
use Rattle.std.proofs.lemmas.Bool.{cases_lt, cases_Bool, true≢false, not-true, and_parts, and_from, or_cases, or_left, or_right, not_from_false}
use Rattle.std.proofs.lemmas.List.FromFn.{length-range_with_len}
use Rattle.std.proofs.lemmas.List.Sums.{count_by-le-length}
use Rattle.std.proofs.lemmas.Option.{none-some}
use Rattle.tt_sgf.specs.declared.size.Size.{Size}
use Rattle.tt_sgf.specs.declared.bits.TheConstants.{BITS}
use Rattle.tt_sgf.specs.Sizes.{point_count}
use Rattle.tt_sgf.specs.laws.SizeLaws.{point_count_is_bounded}
use Rattle.tt_sgf.specs.MachineWords.{bit_in, AreBitsOf}
use Rattle.tt_board.specs.declared.Colour.{Colour}
use Rattle.tt_board.specs.declared.Colour.TheVariants.{Black, White}
use Rattle.tt_board.specs.Position.{Colouring}
use Rattle.tt_board.specs.Reach.{entry_at, Reaches}
use Rattle.tt_board.specs.ReachLaws.{reaches_beside, reaches_on, reaches_all}
use Rattle.tt_board.specs.Play.{is_stone_of}
use Rattle.tt_board.specs.Setup.{AllHaveLiberties, IsLeastWithoutLiberty}
use Rattle.tt_board.specs.Around.{AreOn, AreThose, AreReaching, IsBesideSome}
use Rattle.tt_board.proofs.AroundLemmas.{off_if}
use Rattle.tt_board.proofs.CountLemmas.{count_both, count_some}
use Rattle.tt_board.proofs.PlaneLemmas.{neither}

-- ---- the sets of a colouring

module _ (s : Size) (c : Colouring) (fits : length c ≡ point_count s) where
  -- a point of the board has its bit
  pub small : (p : ℕ) → p < point_count s → p < BITS
  small p in_p = omega (arith, point_count_is_bounded s)

  -- bits of the stones of a colour are on the board
  pub stones_on : (k : Colour) (words : List ℕ) → AreBitsOf words (length c) (λ p. is_stone_of (entry_at c p) k) → AreOn s words
  stones_on k words are q past lt = are.behind q (omega (arith, past, fits)) lt

  -- and are those points
  pub stones_those : (k : Colour) (words : List ℕ) → AreBitsOf words (length c) (λ p. is_stone_of (entry_at c p) k) → AreThose s words c (Some k)
  stones_those k words are p in_p =
      let is = are.below p (omega (arith, in_p, fits)) (small p in_p) in
      (λ on. stone_is (entry_at c p) k (sym is ∙ on), λ e. is ∙ is_stone (entry_at c p) k e)
    where
      stone_is : (x : Option Colour) (j : Colour) → is_stone_of x j ≡ true → x ≡ Some j
      stone_is None j on = absurd (true≢false (sym on))
      stone_is (Some Black) Black on = refl
      stone_is (Some Black) White on = absurd (true≢false (sym on))
      stone_is (Some White) Black on = absurd (true≢false (sym on))
      stone_is (Some White) White on = refl

      is_stone : (x : Option Colour) (j : Colour) → x ≡ Some j → is_stone_of x j ≡ true
      is_stone x Black e = rw e refl
      is_stone x White e = rw e refl

-- ---- the fill

-- what a fill has found so far: points of its own that reach what is wanted, and all beside that
pub record IsFound (s : Size) (own wanted found : List ℕ) : Type 0 where
  pub within : (q : ℕ) → q < BITS → bit_in found q ≡ true → bit_in own q ≡ true
  pub sound : (c : Colouring) (a e : Option Colour) → a ≢ e → AreThose s own c a → AreThose s wanted c e
      → (p : ℕ) → p < point_count s → bit_in found p ≡ true → Reaches s c p e
  pub edges : (p : ℕ) → p < point_count s → bit_in own p ≡ true → IsBesideSome s wanted p → bit_in found p ≡ true

module _ (s : Size) (own wanted : List ℕ) (on : AreOn s own) where
  -- a point of the board has its bit
  fits : (p : ℕ) → p < point_count s → p < BITS
  fits p in_p = omega (arith, point_count_is_bounded s)

  -- what is found is on the board
  pub found_on : (found : List ℕ) → IsFound s own wanted found → AreOn s found
  found_on found f q past lt = off_if (bit_in found q) (λ h. true≢false (sym (f.within q lt h) ∙ on q past lt))

  -- it begins with the points beside what is wanted
  pub found_first : (near found : List ℕ) → ((p : ℕ) → p < point_count s → (bit_in near p ≡ true) ↔ IsBesideSome s wanted p)
      → ((q : ℕ) → q < BITS → bit_in found q ≡ (bit_in near q && bit_in own q)) → IsFound s own wanted found
  found_first near found near_is found_is = record {
    within = λ q lt h. (and_parts (bit_in near q) (bit_in own q) (sym (found_is q lt) ∙ h)).1;
    sound = λ c a e apart owns wants p in_p h.
        let both = and_parts (bit_in near p) (bit_in own p) (sym (found_is p (fits p in_p)) ∙ h) in
        let way = (near_is p in_p).0 both.0 in
        let mine = (owns p in_p).0 both.1 in
        reaches_beside s c e p way.0 (λ is. apart (sym mine ∙ is)) way.1 ((wants way.0 way.1.0).0 way.2);
    edges = λ p in_p mine way. found_is p (fits p in_p) ∙ and_from _ _ ((near_is p in_p).1 way) mine;
  }

  -- the points beside those found, and of these the ones that are its own and new
  module _ (found near both more : List ℕ) (f : IsFound s own wanted found) (near_is : (p : ℕ) → p < point_count s → (bit_in near p ≡ true) ↔ IsBesideSome s found p)
      (both_is : (q : ℕ) → q < BITS → bit_in both q ≡ (bit_in near q && bit_in own q)) (more_is : (q : ℕ) → q < BITS → bit_in more q ≡ (bit_in both q && not (bit_in found q))) where
    -- what is new is beside what was found, its own, and wasn't found yet
    news : (q : ℕ) → q < BITS → bit_in more q ≡ true → (bit_in near q ≡ true) × (bit_in own q ≡ true) × (bit_in found q ≡ false)
    news q lt h =
        let new = and_parts (bit_in both q) (not (bit_in found q)) (sym (more_is q lt) ∙ h) in
        let old = and_parts (bit_in near q) (bit_in own q) (sym (both_is q lt) ∙ new.0) in
        (old.0, old.1, not-true _ new.1)

    -- with these it goes on
    module _ (made : List ℕ) (made_is : (q : ℕ) → q < BITS → bit_in made q ≡ (bit_in found q || bit_in more q)) where
      pub found_more : IsFound s own wanted made
      found_more = record {
        within = λ q lt h. elim (or_cases _ _ (sym (made_is q lt) ∙ h)) [ inl old ↦ f.within q lt old | inr new ↦ (news q lt new).1 ];
        sound = λ c a e apart owns wants p in_p h. elim (or_cases _ _ (sym (made_is p (fits p in_p)) ∙ h)) [
          | inl old ↦ f.sound c a e apart owns wants p in_p old
          | inr new ↦
              let is = news p (fits p in_p) new in
              let way = (near_is p in_p).0 is.0 in
              let mine = (owns p in_p).0 is.1 in
              let like = (owns way.0 way.1.0).0 (f.within way.0 (fits way.0 way.1.0) way.2) in
              reaches_on s c e p way.0 way.1 (like ∙ sym mine) (f.sound c a e apart owns wants way.0 way.1.0 way.2)
        ];
        edges = λ p in_p mine way. made_is p (fits p in_p) ∙ or_left _ _ (f.edges p in_p mine way);
      }

      -- and fewer points are left
      pub fewer_left : (q : ℕ) → q < BITS → bit_in more q ≡ true
          → point_count s - count_by (bit_in made) (range_with_len 0 (point_count s)) < point_count s - count_by (bit_in found) (range_with_len 0 (point_count s))
      fewer_left q lt h =
          let in_q : q < point_count s = elim (cases_lt q (point_count s)) [ inl below ↦ below | inr past ↦ absurd (true≢false (sym (news q lt h).1 ∙ on q past lt)) ] in
          let some = count_some (bit_in more) (point_count s) q in_q h in
          let sum = count_both (bit_in found) (bit_in more) (bit_in made) (point_count s) (λ k below. each k (fits k below)) in
          let most = count_by-le-length (bit_in made) (range_with_len 0 (point_count s)) in
          omega (arith, some, sum, most, length-range_with_len 0 (point_count s))
        where
          or_none : (b : Bool) → (b || false) ≡ b
          or_none true = refl
          or_none false = refl

          each : (k : ℕ) → k < BITS → ((bit_in made k ≡ bit_in found k) × (bit_in more k ≡ false)) ⊎ ((bit_in made k ≡ true) × (bit_in found k ≡ false) × (bit_in more k ≡ true))
          each k below = elim (cases_Bool (bit_in more k)) [
            | inl new ↦ inr (made_is k below ∙ or_right _ _ new, (news k below new).2, new)
            | inr none ↦ inl (made_is k below ∙ rw none (or_none (bit_in found k)), none)
          ]

    -- where none is new, all that reach are found
    pub found_all : ((q : ℕ) → q < BITS → bit_in more q ≡ false) → (c : Colouring) (a e : Option Colour) → a ≢ e → AreThose s own c a → AreThose s wanted c e → AreReaching s found c a e
    found_all none c a e apart owns wants p in_p = (
      λ h. ((owns p in_p).0 (f.within p (fits p in_p) h), f.sound c a e apart owns wants p in_p h),
      λ h.
          let r = h.1 in
          reaches_all s c e (λ x. entry_at c x ≡ a → bit_in found x ≡ true)
          (λ x q in_x other way has mine. f.edges x in_x ((owns x in_x).1 mine) (q, way, (wants q way.0).1 has))
          (λ x q in_x other way same before mine. closed x in_x ((owns x in_x).1 mine) (q, way, before (same ∙ mine)))
          p r.path in_p r.adjacent r.alike r.other r.found r.beside r.has_entry h.0,
    )
      where
        closed : (x : ℕ) → x < point_count s → bit_in own x ≡ true → IsBesideSome s found x → bit_in found x ≡ true
        closed x in_x mine way = elim (cases_Bool (bit_in found x)) [
          | inl there ↦ there
          | inr out ↦
              let new = more_is x (fits x in_x) ∙ and_from _ _ (both_is x (fits x in_x) ∙ and_from _ _ ((near_is x in_x).1 way) mine) (not_from_false _ out) in
              absurd (true≢false (sym new ∙ none x (fits x in_x)))
        ]

-- ---- the least lifeless stone

-- the stones of each colour, those of them that reach empty and those that don't, and the least of these
module _ (s : Size) (c : Colouring) (fit : length c ≡ point_count s) (black white black_alive white_alive black_dead white_dead dead : List ℕ)
    (blacks : AreThose s black c (Some Black)) (whites : AreThose s white c (Some White))
    (blacks_reach : AreReaching s black_alive c (Some Black) None) (whites_reach : AreReaching s white_alive c (Some White) None)
    (black_is : (q : ℕ) → q < BITS → bit_in black_dead q ≡ (bit_in black q && not (bit_in black_alive q)))
    (white_is : (q : ℕ) → q < BITS → bit_in white_dead q ≡ (bit_in white q && not (bit_in white_alive q)))
    (dead_is : (q : ℕ) → q < BITS → bit_in dead q ≡ (bit_in black_dead q || bit_in white_dead q)) where
  -- a stone of a colour that isn't among those that don't reach does
  reaches_if : (k : Colour) (words alive gone : List ℕ) → AreThose s words c (Some k) → AreReaching s alive c (Some k) None
      → ((q : ℕ) → q < BITS → bit_in gone q ≡ (bit_in words q && not (bit_in alive q))) → (p : ℕ) → p < point_count s → bit_in gone p ≡ false → entry_at c p ≡ Some k → Reaches s c p None
  reaches_if k words alive gone those reach gone_is p in_p off mine = elim (cases_Bool (bit_in alive p)) [
    | inl on ↦ ((reach p in_p).0 on).1
    | inr out ↦ absurd (true≢false (sym (gone_is p (small s c fit p in_p) ∙ and_from _ _ ((those p in_p).1 mine) (not_from_false _ out)) ∙ off))
  ]

  -- and one that is among them doesn't
  reaches_not : (k : Colour) (words alive gone : List ℕ) → AreThose s words c (Some k) → AreReaching s alive c (Some k) None
      → ((q : ℕ) → q < BITS → bit_in gone q ≡ (bit_in words q && not (bit_in alive q))) → (p : ℕ) → p < point_count s → bit_in gone p ≡ true
      → (entry_at c p ≡ Some k) × (Reaches s c p None → ⊥)
  reaches_not k words alive gone those reach gone_is p in_p on =
      let h = and_parts (bit_in words p) (not (bit_in alive p)) (sym (gone_is p (small s c fit p in_p)) ∙ on) in
      let mine = (those p in_p).0 h.0 in
      (mine, λ r. true≢false (sym ((reach p in_p).1 (mine, r)) ∙ not-true _ h.1))

  -- a stone that isn't among the lifeless ones reaches empty
  pub alive_if : (p : ℕ) → p < point_count s → bit_in dead p ≡ false → entry_at c p ≢ None → Reaches s c p None
  alive_if p in_p off stone =
      let lt = small s c fit p in_p in
      let h = neither (bit_in black_dead p) (bit_in white_dead p) (sym (dead_is p lt) ∙ off) in
      by (entry_at c p) refl h
    where
      by : (x : Option Colour) → entry_at c p ≡ x → (bit_in black_dead p ≡ false) × (bit_in white_dead p ≡ false) → Reaches s c p None
      by None e h = absurd (stone e)
      by (Some Black) e h = reaches_if Black black black_alive black_dead blacks blacks_reach black_is p in_p h.0 e
      by (Some White) e h = reaches_if White white white_alive white_dead whites whites_reach white_is p in_p h.1 e

  -- one that is among them is a stone that doesn't
  pub lifeless_if : (p : ℕ) → p < point_count s → bit_in dead p ≡ true → (entry_at c p ≢ None) × (Reaches s c p None → ⊥)
  lifeless_if p in_p on = elim (or_cases _ _ (sym (dead_is p (small s c fit p in_p)) ∙ on)) [
    | inl b ↦ let h = reaches_not Black black black_alive black_dead blacks blacks_reach black_is p in_p b in (λ none. none-some Black (sym none ∙ h.0), h.1)
    | inr w ↦ let h = reaches_not White white white_alive white_dead whites whites_reach white_is p in_p w in (λ none. none-some White (sym none ∙ h.0), h.1)
  ]

  -- so the first of them is the least lifeless stone
  module _ (first : ℕ) (none : (q : ℕ) → 0 ≤ q → q < first → q < BITS → bit_in dead q ≡ false) where
    pub least_lifeless : (first < BITS → bit_in dead first ≡ true) → first < point_count s → IsLeastWithoutLiberty s c first
    least_lifeless found in_first =
        let h = lifeless_if first in_first (found (small s c fit first in_first)) in
        record {
          on_board = in_first;
          stone = h.0;
          lifeless = h.1;
          least = λ q before stone. alive_if q (omega arith) (none q (omega arith) before (small s c fit q (omega arith))) stone;
        }

    -- and where that is past the board there is none
    pub none_lifeless : point_count s ≤ first → AllHaveLiberties s c
    none_lifeless past p in_p stone = alive_if p in_p (none p (omega arith) (omega (arith, past, in_p)) (small s c fit p in_p)) stone
