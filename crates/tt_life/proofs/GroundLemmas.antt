-- The ground of a frame and a board, and what is left on it.
use Rattle.std.proofs.Common.{◌≡◌, ◌≢◌, ℕ, ◌<◌, ◌↔◌, ◌&&◌, not, ltb, List, Option, Some, None, true, false, IsTrue, inl, inr, refl, sym, ap, ◌∙◌, arith}
use Rattle.std.specs.FinSet as set_of
use Rattle.std.proofs.lemmas.Bool.{cases_lt, cases_Bool, true≢false, and_parts, and_from, and_left, not-true, not_from_false, or_cases, or_left, lt-ltb, le-ltb}
use Rattle.std.proofs.lemmas.Option.{none-some}
use Rattle.tt_sgf.specs.declared.bits.TheConstants.{BITS}
use Rattle.tt_sgf.specs.declared.size.TheConstants.{MOST_POINTS}
use Rattle.tt_sgf.specs.Sizes.{point_count}
use Rattle.tt_sgf.specs.Points.{passing}
use Rattle.tt_sgf.specs.laws.PointLaws.{contains-passing}
use Rattle.tt_sgf.specs.laws.SizeLaws.{point_count_is_bounded}
use Rattle.tt_sgf.specs.MachineWords.{bit_in, AreBitsOf, IsWithinUnion}
use Rattle.tt_board.specs.declared.Colour.{Colour}
use Rattle.tt_board.specs.Position.{Colouring}
use Rattle.tt_board.specs.Reach.{entry_at}
use Rattle.tt_board.specs.Play.{other, is_stone_of}
use Rattle.tt_board.specs.Stones.{PointNumberSet, IsSetOnBoard}
use Rattle.tt_board.specs.Decided.{decide_same_entry}
use Rattle.tt_board.specs.Around.{AreOn}
use Rattle.tt_game.specs.declared.frame.Frame.{Frame}
use Rattle.tt_life.specs.declared.elimination.Ground.{Ground}
use Rattle.tt_life.specs.Life.{IsUnconditionallyAlive}
use Rattle.tt_life.specs.inside.Linked.{points_in, IsGroundOf, IsSoundGround, AreDefenders, AreMostAlive}
use Rattle.tt_board.specs.laws.ClearLaws.{stone_of, not_stone_of, not_other}
use Rattle.tt_life.proofs.LinkedLemmas.{in_points, points_on_board, bit_of_point}
use Rattle.tt_life.proofs.LinkedSetLemmas.{small}

-- a stone of the colour, by the test
is_stone : (x : Option Colour) (k : Colour) → is_stone_of x k ≡ true → x ≡ Some k
is_stone x k on = elim (decide_same_entry x (Some k)) [ inl same ↦ same | inr apart ↦ absurd (true≢false (sym on ∙ not_stone_of x k apart)) ]

-- no stone of either colour is no stone
no_stone : (x : Option Colour) (k : Colour) → x ≢ Some k → x ≢ Some (other k) → x ≡ None
no_stone x k a b = elim (decide_same_entry x None) [ inl none ↦ none | inr some ↦ absurd (a (not_other k x some b)) ]

module _ (f : Frame) (c : Colouring) (n : ℕ) (all : n ≡ point_count f.size) where
  -- bits of the stones of a colour
  module _ (k : Colour) (words : List ℕ) (are : AreBitsOf words n (λ p. is_stone_of (entry_at c p) k)) where
    stone_at : (q : ℕ) → q < point_count f.size → bit_in words q ≡ true → entry_at c q ≡ Some k
    stone_at q in_q on = is_stone (entry_at c q) k (sym (are.below q (omega arith) (small f.size q in_q)) ∙ on)

    bit_at_stone : (q : ℕ) → q < point_count f.size → entry_at c q ≡ Some k → bit_in words q ≡ true
    bit_at_stone q in_q e = are.below q (omega arith) (small f.size q in_q) ∙ stone_of (entry_at c q) k e

    no_bit : (q : ℕ) → q < point_count f.size → entry_at c q ≢ Some k → bit_in words q ≡ false
    no_bit q in_q apart = are.below q (omega arith) (small f.size q in_q) ∙ not_stone_of (entry_at c q) k apart

    pub stones_on : AreOn f.size words
    stones_on q past lt = are.behind q (omega arith) lt

  module _ (stones theirs region whole : List ℕ) (theirs_colour : Colour) (their : theirs_colour ≡ other f.defender)
      (stones_are : AreBitsOf stones n (λ p. is_stone_of (entry_at c p) f.defender)) (theirs_are : AreBitsOf theirs n (λ p. is_stone_of (entry_at c p) theirs_colour))
      (region_are : AreBitsOf region MOST_POINTS (λ p. set_of.contains f.region p)) (all_points : PointNumberSet) (have_all : all_points ≡ passing (λ p. true) (point_count f.size))
      (whole_are : AreBitsOf whole MOST_POINTS (λ p. set_of.contains all_points p))
      (g : Ground) (space_is : (q : ℕ) → q < BITS → bit_in g.space.words q ≡ (bit_in whole q && not (bit_in stones q)))
      (empty_is : (q : ℕ) → q < BITS → bit_in g.empty.words q ≡ (bit_in g.space.words q && not (bit_in theirs q)))
      (outside_is : (q : ℕ) → q < BITS → bit_in g.outside.words q ≡ (bit_in g.empty.words q && not (bit_in region q))) where
    -- the points of the board
    has_point : (q : ℕ) → set_of.contains all_points q ≡ (ltb q (point_count f.size) && true)
    has_point q = ap (λ x. set_of.contains x q) have_all ∙ contains-passing (λ p. true) (point_count f.size) q

    whole_has : (q : ℕ) → q < point_count f.size → bit_in whole q ≡ true
    whole_has q in_q = whole_are.below q (omega (arith, point_count_is_bounded f.size)) (small f.size q in_q) ∙ has_point q ∙ and_from _ _ (lt-ltb q (point_count f.size) in_q) refl

    whole_on : AreOn f.size whole
    whole_on q past lt = elim (cases_lt q MOST_POINTS) [
      | inl below ↦ whole_are.below q below lt ∙ has_point q ∙ and_left _ _ (le-ltb q (point_count f.size) past)
      | inr behind ↦ whole_are.behind q behind lt
    ]

    space_on : AreOn f.size g.space.words
    space_on q past lt = space_is q lt ∙ and_left _ _ (whole_on q past lt)

    empty_on : AreOn f.size g.empty.words
    empty_on q past lt = empty_is q lt ∙ and_left _ _ (space_on q past lt)

    pub ground_sound : IsSoundGround f.size g
    ground_sound = record {
      space_on = space_on;
      outside_on = λ q past lt. outside_is q lt ∙ and_left _ _ (empty_on q past lt);
      empty_within = λ q h.
          let in_q = points_on_board f.size g.empty.words q h in
          in_points f.size g.space.words q in_q (and_parts (bit_in g.space.words q) (not (bit_in theirs q)) (sym (empty_is q (small f.size q in_q)) ∙ bit_of_point f.size g.empty.words q h)).0;
    }

    -- bit by bit
    space_bit : (q : ℕ) → q < point_count f.size → (bit_in g.space.words q ≡ true) ↔ (entry_at c q ≢ Some f.defender)
    space_bit q in_q = (
      λ on e. true≢false (sym (bit_at_stone f.defender stones stones_are q in_q e)
          ∙ not-true _ (and_parts (bit_in whole q) (not (bit_in stones q)) (sym (space_is q (small f.size q in_q)) ∙ on)).1),
      λ apart. space_is q (small f.size q in_q) ∙ and_from _ _ (whole_has q in_q) (not_from_false _ (no_bit f.defender stones stones_are q in_q apart)),
    )

    empty_bit : (q : ℕ) → q < point_count f.size → (bit_in g.empty.words q ≡ true) ↔ (entry_at c q ≡ None)
    empty_bit q in_q = (
      λ on.
          let h = and_parts (bit_in g.space.words q) (not (bit_in theirs q)) (sym (empty_is q (small f.size q in_q)) ∙ on) in
          no_stone (entry_at c q) f.defender ((space_bit q in_q).0 h.0)
          (λ e. true≢false (sym (bit_at_stone theirs_colour theirs theirs_are q in_q (e ∙ ap Some (sym their))) ∙ not-true _ h.1)),
      λ e. empty_is q (small f.size q in_q) ∙ and_from _ _ ((space_bit q in_q).1 (λ own. none-some f.defender (sym e ∙ own)))
          (not_from_false _ (no_bit theirs_colour theirs theirs_are q in_q (λ own. none-some theirs_colour (sym e ∙ own)))),
    )

    region_bit : (q : ℕ) → q < point_count f.size → bit_in region q ≡ set_of.contains f.region q
    region_bit q in_q = region_are.below q (omega (arith, point_count_is_bounded f.size)) (small f.size q in_q)

    pub ground_is : IsGroundOf f c g
    ground_is = record {
      space_is = λ q. (
        λ h. let in_q = points_on_board f.size g.space.words q h in (in_q, (space_bit q in_q).0 (bit_of_point f.size g.space.words q h)),
        λ h. in_points f.size g.space.words q h.0 ((space_bit q h.0).1 h.1),
      );
      empty_is = λ q. (
        λ h. let in_q = points_on_board f.size g.empty.words q h in (in_q, (empty_bit q in_q).0 (bit_of_point f.size g.empty.words q h)),
        λ h. in_points f.size g.empty.words q h.0 ((empty_bit q h.0).1 h.1),
      );
      outside_is = λ q. (
        λ h.
            let in_q = points_on_board f.size g.outside.words q h in
            let parts = and_parts (bit_in g.empty.words q) (not (bit_in region q)) (sym (outside_is q (small f.size q in_q)) ∙ bit_of_point f.size g.outside.words q h) in
            (in_q, (empty_bit q in_q).0 parts.0, λ there. true≢false (sym there ∙ sym (region_bit q in_q) ∙ not-true _ parts.1)),
        λ h. in_points f.size g.outside.words q h.0 (outside_is q (small f.size q h.0) ∙ and_from _ _ ((empty_bit q h.0).1 h.1) (out q h.0 h.2)),
      );
    }
      where
        out : (q : ℕ) → q < point_count f.size → (IsTrue (set_of.contains f.region q) → ⊥) → not (bit_in region q) ≡ true
        out q in_q none = elim (cases_Bool (bit_in region q)) [
          | inl on ↦ absurd (none (sym (region_bit q in_q) ∙ on))
          | inr off ↦ not_from_false _ off
        ]

  module _ (stones : List ℕ) (stones_are : AreBitsOf stones n (λ p. is_stone_of (entry_at c p) f.defender)) where
    pub own_stones : AreDefenders f c (points_in f.size stones)
    own_stones q h = stone_at f.defender stones stones_are q (points_on_board f.size stones q h) (bit_of_point f.size stones q h)

    -- the targets are among what is left exactly where they are alive
    module _ (left targets : List ℕ) (targets_are : AreBitsOf targets MOST_POINTS (λ p. set_of.contains f.targets p)) (on_board : IsSetOnBoard f.size f.targets)
        (is : AreMostAlive f c (points_in f.size stones) (points_in f.size left)) where
      pub targets_left : IsWithinUnion targets left left → IsUnconditionallyAlive f c
      targets_left u = (
        points_in f.size left,
        record {
          on_board = points_on_board f.size left;
          defenders = λ q h. own_stones q (is.within q h);
          have_targets = λ q h.
              let in_q = on_board q h in
              let on = targets_are.below q (omega (arith, point_count_is_bounded f.size)) (small f.size q in_q) ∙ h in
              in_points f.size left q in_q (elim (or_cases _ _ (u q (small f.size q in_q) on)) [ inl there ↦ there | inr there ↦ there ]);
          alive = is.alive;
        },
      )

      pub targets_alive : IsUnconditionallyAlive f c → IsWithinUnion targets left left
      targets_alive (alive, they) q lt on = elim (cases_lt q MOST_POINTS) [
        | inr past ↦ absurd (true≢false (sym on ∙ targets_are.behind q past lt))
        | inl below ↦
            let there = they.have_targets q (sym (targets_are.below q below lt) ∙ on) in
            or_left _ _ (bit_of_point f.size left q (is.most alive
            (λ x h. in_points f.size stones x (they.on_board x h) (bit_at_stone f.defender stones stones_are x (they.on_board x h) (they.defenders x h))) they.alive q there))
      ]
