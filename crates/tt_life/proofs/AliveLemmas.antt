-- Whether a chain is alive, by what it touches.
use Rattle.std.proofs.Common.{◌≡◌, ℕ, ◌<◌, ◌↔◌, ◌&&◌, List, Option, Some, None, true, false, IsTrue, MatchOption, inl, inr, refl, sym, ◌∙◌}
use Rattle.std.specs.Option.{is_some}
use Rattle.std.specs.FinSet as set
use Rattle.std.proofs.lemmas.Bool.{cases_lt, true≢false, false≢true, and_parts, and_from}
use Rattle.tt_sgf.specs.declared.bits.TheConstants.{BITS}
use Rattle.tt_sgf.specs.Sizes.{point_count}
use Rattle.tt_sgf.specs.MachineWords.{bit_in}
use Rattle.tt_board.specs.Position.{Colouring}
use Rattle.tt_board.specs.Around.{IsBesideSome}
use Rattle.tt_game.specs.declared.frame.Frame.{Frame}
use Rattle.tt_life.specs.declared.elimination.Ground.{Ground}
use Rattle.tt_board.specs.laws.NearLaws.{near_back}
use Rattle.tt_life.specs.Life.{StoneTouches, HasLibertyOutside, HasTwoEyes, HasTwoEyesAt, AreEyesOfTarget}
use Rattle.tt_life.specs.inside.Linked.{points_in, IsLinkedSet, IsAtOneEye, AreAtTwoEyes, IsGroundOf, IsSoundGround, AreDefenders, AreMostAlive}
use Rattle.tt_life.proofs.LinkedLemmas.{in_points, points_on_board, bit_of_point, touch, touched}
use Rattle.tt_life.proofs.LinkedSetLemmas.{small}
use Rattle.tt_life.proofs.EyeLemmas.{two_at, two_to}

module _ (f : Frame) (c : Colouring) (g : Ground) (ground : IsGroundOf f c g) (sound : IsSoundGround f.size g) (stones chain near : List ℕ)
    (own : AreDefenders f c (points_in f.size stones)) (p : ℕ) (linked : IsLinkedSet f.size (points_in f.size stones) p (points_in f.size chain))
    (near_is : (q : ℕ) → q < point_count f.size → (bit_in near q ≡ true) ↔ IsBesideSome f.size chain q) where
  -- what is near is touched
  near_touched : (q : ℕ) → IsTrue (points_in f.size near q) ↔ StoneTouches f.size (points_in f.size stones) p q
  near_touched q = (
    λ h.
        let in_q = points_on_board f.size near q h in
        let way = (near_is q in_q).0 (bit_of_point f.size near q h) in
        touch f.size (points_in f.size stones) p way.0 q ((linked way.0).0 (in_points f.size chain way.0 way.1.0 way.2)) (near_back f.size q way.0 in_q way.1),
    λ t.
        let way = touched f.size (points_in f.size stones) p q t in
        let there = (linked way.0).1 way.1 in
        let back = near_back f.size way.0 q (points_on_board f.size chain way.0 there) way.2 in
        in_points f.size near q way.2.0 ((near_is q way.2.0).1 (way.0, back, bit_of_point f.size chain way.0 there)),
  )

  -- a point of the board with a bit of the ground outside the region
  module _ (both : List ℕ) (both_is : (q : ℕ) → q < BITS → bit_in both q ≡ (bit_in near q && bit_in g.outside.words q)) where
    pub outside_found : (q : ℕ) → q < BITS → bit_in both q ≡ true → HasLibertyOutside f c (points_in f.size stones) p
    outside_found q lt on =
        let h = and_parts (bit_in near q) (bit_in g.outside.words q) (sym (both_is q lt) ∙ on) in
        let in_q : q < point_count f.size = elim (cases_lt q (point_count f.size)) [ inl below ↦ below | inr past ↦ absurd (true≢false (sym h.1 ∙ sound.outside_on q past lt)) ] in
        let is = (ground.outside_is q).0 (in_points f.size g.outside.words q in_q h.1) in
        (q, (near_touched q).0 (in_points f.size near q in_q h.0), is.1, is.2)

    pub outside_none : ((q : ℕ) → q < BITS → bit_in both q ≡ false) → HasLibertyOutside f c (points_in f.size stones) p → ⊥
    outside_none none out =
        let q = out.0 in
        let in_q = out.1.beside.0 in
        let a = bit_of_point f.size near q ((near_touched q).1 out.1) in
        let b = bit_of_point f.size g.outside.words q ((ground.outside_is q).1 (in_q, out.2, out.3)) in
        true≢false (sym (both_is q (small f.size q in_q) ∙ and_from _ _ a b) ∙ none q (small f.size q in_q))

  -- two eyes from points at two, and none where all are at one
  pub two_found : (a b : ℕ) → AreAtTwoEyes f.size g (points_in f.size stones) (points_in f.size near) a b → HasTwoEyesAt f.size c f.defender (points_in f.size stones) p a b
  two_found a b at =
      let x = (ground.empty_is a).0 at.0.0 in
      let y = (ground.empty_is b).0 at.1.0 in
      two_at f.size c f.defender (points_in f.size stones) own p (points_in f.size near) (points_in f.size g.space.words) near_touched ground.space_is a b x.0 y.0 x.1 y.1 at.0.1 at.1.1 at.2

  pub two_none : IsAtOneEye f.size g (points_in f.size stones) (points_in f.size near) → HasTwoEyes f.size c f.defender (points_in f.size stones) p → ⊥
  two_none one two =
      let h = two_to f.size c f.defender (points_in f.size stones) own p (points_in f.size near) (points_in f.size g.space.words) near_touched ground.space_is two in
      h.4 (one h.0 h.1 ((ground.empty_is h.0).1 (h.2.0, h.2.1), h.2.2) ((ground.empty_is h.1).1 (h.3.0, h.3.1), h.3.2))

  -- those of a target that is left
  pub eyes_of_target : (all : List ℕ) → AreMostAlive f c (points_in f.size all) (points_in f.size stones) → IsTrue (points_in f.size stones p) → IsTrue (set.contains f.targets p)
      → (a b : ℕ) → AreAtTwoEyes f.size g (points_in f.size stones) (points_in f.size near) a b → AreEyesOfTarget f c a b
  eyes_of_target all most stands is_target a b at = record {
    stones = points_in f.size stones;
    on_board = points_on_board f.size stones;
    defenders = own;
    alive = most.alive;
    target = p;
    is_target = is_target;
    stands = stands;
    eyes = two_found a b at;
  }

  -- so it says whether there are two
  pub two_exactly : (eyes : Option (ℕ × ℕ)) → MatchOption eyes (IsAtOneEye f.size g (points_in f.size stones) (points_in f.size near))
      (λ e. AreAtTwoEyes f.size g (points_in f.size stones) (points_in f.size near) e.0 e.1)
      → IsTrue (is_some eyes) ↔ HasTwoEyes f.size c f.defender (points_in f.size stones) p
  two_exactly None one = (λ h. absurd (false≢true h), λ two. absurd (two_none one two))
  two_exactly (Some (a, b)) at = (λ _. let t = two_found a b at in (t.0, t.1, t.2, t.3, t.4), λ _. refl)
