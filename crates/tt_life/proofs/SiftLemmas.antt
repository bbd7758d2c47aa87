-- One pass over the stones, and the passes till none goes.
use Rattle.std.proofs.Common.{◌≡◌, ℕ, ◌+◌, ◌<◌, ◌≤◌, ◌↔◌, ◌&&◌, ◌||◌, not, count_by, List, true, false, IsTrue, Bool, inl, inr, sym, ap, ◌∙◌, arith}
use Rattle.std.specs.List.{range_with_len}
use Rattle.std.proofs.lemmas.Bool.{cases_eq, cases_lt, cases_Bool, true≢false, and_parts, and_from, and_left, and_right, not_from_false, or_cases, or_left, or_right, or_from}
use Rattle.std.proofs.lemmas.List.Elements.{All-weaker}
use Rattle.tt_sgf.specs.declared.size.Size.{Size}
use Rattle.tt_sgf.specs.declared.bits.TheConstants.{BITS}
use Rattle.tt_sgf.specs.Sizes.{point_count}
use Rattle.tt_sgf.specs.MachineWords.{bit_in}
use Rattle.tt_board.specs.Position.{Colouring}
use Rattle.tt_board.specs.Around.{AreOn}
use Rattle.tt_board.proofs.CountLemmas.{count_some, count_both}
use Rattle.tt_game.specs.declared.frame.Frame.{Frame}
use Rattle.tt_life.specs.declared.elimination.Ground.{Ground}
use Rattle.tt_life.specs.Life.{Points, StoneTouches, IsEyeOf, IsAliveAmong}
use Rattle.tt_life.specs.inside.Linked.{points_in, IsLinkedSet, IsSubset, IsGroundOf, AreDefenders, AreAlive, AreMostAlive}
use Rattle.tt_life.proofs.LinkedLemmas.{in_points, points_on_board, bit_of_point, linked_itself, linked_in, linked_join, linked_back}
use Rattle.tt_life.proofs.LinkedSetLemmas.{small}

-- what is linked to a point is linked to each of it
pub same_chain : (s : Size) (stones chain : List ℕ) (p : ℕ) → IsTrue (points_in s stones p) → IsLinkedSet s (points_in s stones) p (points_in s chain)
    → (q : ℕ) → IsTrue (points_in s chain q) → IsLinkedSet s (points_in s stones) q (points_in s chain)
same_chain s stones chain p mine linked q there x =
    let way = (linked q).0 there in (
      λ h. linked_join s (points_in s stones) q p x (linked_back s (points_in s stones) (points_on_board s stones) p q mine way) ((linked x).0 h),
      λ l. (linked x).1 (linked_join s (points_in s stones) p q x way l),
    )

-- the stones before p are done, and of those done the ones that are alive are kept
pub record IsSifted (f : Frame) (g : Ground) (stones kept done : List ℕ) (p : ℕ) : Type 0 where
  pub kept_on : AreOn f.size kept
  pub covers : (q : ℕ) → q < p → q < point_count f.size → bit_in stones q ≡ true → bit_in done q ≡ true
  pub within : (q : ℕ) → q < point_count f.size → bit_in kept q ≡ true → IsTrue (points_in f.size stones q)
  pub sound : (c : Colouring) → IsGroundOf f c g → AreDefenders f c (points_in f.size stones) → (q : ℕ) → q < point_count f.size → bit_in kept q ≡ true
      → IsAliveAmong f c (points_in f.size stones) q
  pub full : (c : Colouring) → IsGroundOf f c g → AreDefenders f c (points_in f.size stones) → (q : ℕ) → q < point_count f.size → bit_in done q ≡ true
      → IsAliveAmong f c (points_in f.size stones) q → bit_in kept q ≡ true

-- what is there, and not left, is done
pub none_left : (a b : Bool) → a ≡ true → (a && not b) ≡ false → b ≡ true
none_left a b on none = elim (cases_Bool b) [
  | inl done ↦ done
  | inr off ↦ absurd (true≢false (sym (and_from a (not b) on (ap not off)) ∙ none))
]

module _ (f : Frame) (g : Ground) (stones : List ℕ) where
  -- no stone before p is left
  pub sift_to : (kept done left : List ℕ) (n p : ℕ) → ((q : ℕ) → q < BITS → bit_in left q ≡ (bit_in stones q && not (bit_in done q)))
      → ((q : ℕ) → n ≤ q → q < p → q < BITS → bit_in left q ≡ false) → IsSifted f g stones kept done n → IsSifted f g stones kept done p
  sift_to kept done left n p left_is none was = record {
    kept_on = was.kept_on;
    covers = λ q before in_q h. elim (cases_lt q n) [
      | inl early ↦ was.covers q early in_q h
      | inr late ↦ none_left (bit_in stones q) (bit_in done q) h (sym (left_is q (small f.size q in_q)) ∙ none q late before (small f.size q in_q))
    ];
    within = was.within;
    sound = was.sound;
    full = was.full;
  }

  -- a chain
  module _ (kept done chain more : List ℕ) (p : ℕ) (mine : IsTrue (points_in f.size stones p)) (linked : IsLinkedSet f.size (points_in f.size stones) p (points_in f.size chain))
      (chain_on : AreOn f.size chain) (more_is : (q : ℕ) → q < BITS → bit_in more q ≡ (bit_in done q || bit_in chain q)) (was : IsSifted f g stones kept done p) where
    covered : (q : ℕ) → q < p + 1 → q < point_count f.size → bit_in stones q ≡ true → bit_in more q ≡ true
    covered q before in_q h = more_is q (small f.size q in_q) ∙ elim (cases_eq q p) [
      | inl same ↦ or_right _ _ (ap (bit_in chain) same ∙ bit_of_point f.size chain p ((linked p).1 (linked_itself f.size (points_in f.size stones) p)))
      | inr apart ↦ or_left _ _ (was.covers q (omega arith) in_q h)
    ]

    stone : (q : ℕ) → IsTrue (points_in f.size chain q) → IsTrue (points_in f.size stones q)
    stone q h = linked_in f.size (points_in f.size stones) p q mine ((linked q).0 h)

    -- that is alive
    pub sift_alive : ((c : Colouring) → IsGroundOf f c g → AreDefenders f c (points_in f.size stones) → (q : ℕ) → IsTrue (points_in f.size stones q)
        → IsLinkedSet f.size (points_in f.size stones) q (points_in f.size chain) → IsAliveAmong f c (points_in f.size stones) q)
        → (made : List ℕ) → ((q : ℕ) → q < BITS → bit_in made q ≡ (bit_in kept q || bit_in chain q)) → IsSifted f g stones made more (p + 1)
    sift_alive alive made made_is = record {
      kept_on = λ q past lt. made_is q lt ∙ or_from _ _ (was.kept_on q past lt) (chain_on q past lt);
      covers = covered;
      within = λ q in_q h. elim (or_cases _ _ (sym (made_is q (small f.size q in_q)) ∙ h)) [
        | inl old ↦ was.within q in_q old
        | inr new ↦ stone q (in_points f.size chain q in_q new)
      ];
      sound = λ c is own q in_q h. elim (or_cases _ _ (sym (made_is q (small f.size q in_q)) ∙ h)) [
        | inl old ↦ was.sound c is own q in_q old
        | inr new ↦
            let there = in_points f.size chain q in_q new in
            alive c is own q (stone q there) (same_chain f.size stones chain p mine linked q there)
      ];
      full = λ c is own q in_q h a. made_is q (small f.size q in_q) ∙ elim (or_cases _ _ (sym (more_is q (small f.size q in_q)) ∙ h)) [
        | inl old ↦ or_left _ _ (was.full c is own q in_q old a)
        | inr new ↦ or_right _ _ new
      ];
    }

    -- that isn't
    pub sift_dead : ((c : Colouring) → IsGroundOf f c g → AreDefenders f c (points_in f.size stones) → (q : ℕ) → IsTrue (points_in f.size stones q)
        → IsLinkedSet f.size (points_in f.size stones) q (points_in f.size chain) → IsAliveAmong f c (points_in f.size stones) q → ⊥) → IsSifted f g stones kept more (p + 1)
    sift_dead dead = record {
      kept_on = was.kept_on;
      covers = covered;
      within = was.within;
      sound = was.sound;
      full = λ c is own q in_q h a. elim (or_cases _ _ (sym (more_is q (small f.size q in_q)) ∙ h)) [
        | inl old ↦ was.full c is own q in_q old a
        | inr new ↦
            let there = in_points f.size chain q in_q new in
            absurd (dead c is own q (stone q there) (same_chain f.size stones chain p mine linked q there) a)
      ];
    }

  -- in the end those that are alive are kept
  pub sifted_all : (kept done : List ℕ) (p : ℕ) → point_count f.size ≤ p → IsSifted f g stones kept done p → (c : Colouring) → IsGroundOf f c g → AreDefenders f c (points_in f.size stones)
      → (q : ℕ) → IsTrue (points_in f.size kept q) ↔ (IsTrue (points_in f.size stones q) × IsAliveAmong f c (points_in f.size stones) q)
  sifted_all kept done p end was c is own q = (
    λ h.
        let in_q = points_on_board f.size kept q h in
        let on = bit_of_point f.size kept q h in
        (was.within q in_q on, was.sound c is own q in_q on),
    λ h.
        let in_q = points_on_board f.size stones q h.0 in
        in_points f.size kept q in_q (was.full c is own q in_q (was.covers q (omega arith) in_q (bit_of_point f.size stones q h.0)) h.1),
  )

  -- and nothing else
  pub sifted_within : (kept done : List ℕ) (p : ℕ) → IsSifted f g stones kept done p → IsSubset (points_in f.size kept) (points_in f.size stones)
  sifted_within kept done p was q h = was.within q (points_on_board f.size kept q h) (bit_of_point f.size kept q h)

-- ---- more stones, more life

module _ (f : Frame) (c : Colouring) (a b : Points) (wider : IsSubset a b) where
  touches_wider : (p q : ℕ) → StoneTouches f.size a p q → StoneTouches f.size b p q
  touches_wider p q t = record { path = t.path; adjacent = t.adjacent; within = All-weaker (λ x. IsTrue (a x)) (λ x. IsTrue (b x)) wider t.path t.within; beside = t.beside }

  eye_wider : (p : ℕ) (eye : Points) → IsEyeOf f.size c f.defender a p eye → IsEyeOf f.size c f.defender b p eye
  eye_wider p eye is = (
    record {
      on_board = is.0.on_board;
      without_own = is.0.without_own;
      has_empty = is.0.has_empty;
      walled = λ x y h near. elim (is.0.walled x y h near) [ inl inside ↦ inl inside | inr stone ↦ inr (wider y stone) ];
    },
    λ q h. touches_wider p q (is.1 q h),
  )

  pub alive_wider : (p : ℕ) → IsAliveAmong f c a p → IsAliveAmong f c b p
  alive_wider p h = elim h [
    | inl out ↦ inl (out.0, touches_wider p out.0 out.1, out.2, out.3)
    | inr two ↦ inr (two.0, two.1, eye_wider p two.0 two.2, eye_wider p two.1 two.3, two.4)
  ]

-- ---- the passes

-- what is left so far: stones, all that are alive among themselves among them
pub record IsLeft (f : Frame) (g : Ground) (stones left : List ℕ) : Type 0 where
  pub on_board : AreOn f.size left
  pub within : IsSubset (points_in f.size left) (points_in f.size stones)
  pub most : (c : Colouring) → IsGroundOf f c g → AreDefenders f c (points_in f.size stones)
      → (others : Points) → IsSubset others (points_in f.size stones) → AreAlive f c others → IsSubset others (points_in f.size left)

module _ (f : Frame) (g : Ground) (stones : List ℕ) where
  pub left_first : AreOn f.size stones → IsLeft f g stones stones
  left_first on = record { on_board = on; within = λ q h. h; most = λ c is own others within alive q h. within q h }

  module _ (left next gone : List ℕ) (was : IsLeft f g stones left)
      (alive : (c : Colouring) → IsGroundOf f c g → AreDefenders f c (points_in f.size left) → (q : ℕ) → IsTrue (points_in f.size next q)
      ↔ (IsTrue (points_in f.size left q) × IsAliveAmong f c (points_in f.size left) q))
      (fewer : IsSubset (points_in f.size next) (points_in f.size left))
      (gone_is : (q : ℕ) → q < BITS → bit_in gone q ≡ (bit_in left q && not (bit_in next q))) where
    own_left : (c : Colouring) → AreDefenders f c (points_in f.size stones) → AreDefenders f c (points_in f.size left)
    own_left c own q h = own q (was.within q h)

    -- where none goes all that are left are alive
    pub all_left : ((q : ℕ) → q < BITS → bit_in gone q ≡ false) → (c : Colouring) → IsGroundOf f c g → AreDefenders f c (points_in f.size stones)
        → AreMostAlive f c (points_in f.size stones) (points_in f.size left)
    all_left none c is own = record {
      within = was.within;
      alive = λ q h. ((alive c is (own_left c own) q).0 (stays q h)).1;
      most = was.most c is own;
    }
      where
        stays : (q : ℕ) → IsTrue (points_in f.size left q) → IsTrue (points_in f.size next q)
        stays q h =
            let in_q = points_on_board f.size left q h in
            in_points f.size next q in_q (elim (cases_Bool (bit_in next q)) [
              | inl there ↦ there
              | inr out ↦ absurd (true≢false (sym (gone_is q (small f.size q in_q) ∙ and_from _ _ (bit_of_point f.size left q h) (not_from_false _ out)) ∙ none q (small f.size q in_q)))
            ])

    -- the next pass
    pub left_more : AreOn f.size next → IsLeft f g stones next
    left_more on = record {
      on_board = on;
      within = λ q h. was.within q (fewer q h);
      most = λ c is own others within lives q h.
          let earlier = was.most c is own others within lives in
          (alive c is (own_left c own) q).1 (earlier q h, alive_wider f c others (points_in f.size left) earlier q (lives q h));
    }

    -- has fewer stones where one goes
    pub fewer_left : (p : ℕ) → p < BITS → bit_in gone p ≡ true
        → count_by (bit_in next) (range_with_len 0 (point_count f.size)) < count_by (bit_in left) (range_with_len 0 (point_count f.size))
    fewer_left p lt on =
        let in_p : p < point_count f.size = elim (cases_lt p (point_count f.size)) [
          | inl below ↦ below
          | inr past ↦ absurd (true≢false (sym (and_parts (bit_in left p) (not (bit_in next p)) (sym (gone_is p lt) ∙ on)).0 ∙ was.on_board p past lt))
        ] in
        let some = count_some (bit_in gone) (point_count f.size) p in_p on in
        let sum = count_both (bit_in next) (bit_in gone) (bit_in left) (point_count f.size) (λ q in_q. elim (cases_Bool (bit_in next q)) [
          | inl there ↦
              let before = bit_of_point f.size left q (fewer q (in_points f.size next q in_q there)) in
              inl (before ∙ sym there, gone_is q (small f.size q in_q) ∙ and_right (bit_in left q) (not (bit_in next q)) (ap not there))
          | inr out ↦ elim (cases_Bool (bit_in left q)) [
            | inl before ↦ inr (before, out, gone_is q (small f.size q in_q) ∙ and_from _ _ before (ap not out))
            | inr never ↦ inl (never ∙ sym out, gone_is q (small f.size q in_q) ∙ and_left _ _ never)
          ]
        ]) in
        omega (arith, some, sum)
