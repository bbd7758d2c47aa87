-- Eyes by the sets of what is linked.
use Rattle.std.proofs.Common.{◌≡◌, ◌≢◌, ℕ, ◌<◌, ◌≤◌, ◌↔◌, ◌&&◌, List, Some, None, true, false, IsTrue, inl, inr, sym, ◌∙◌, arith}
use Rattle.std.proofs.lemmas.Bool.{cases_lt, true≢false, and_parts, and_from, or_cases, or_left, or_right}
use Rattle.std.proofs.lemmas.Option.{none-some}
use Rattle.tt_sgf.specs.declared.size.Size.{Size}
use Rattle.tt_sgf.specs.declared.bits.TheConstants.{BITS}
use Rattle.tt_sgf.specs.Sizes.{point_count}
use Rattle.tt_sgf.specs.MachineWords.{bit_in, IsWithinUnion}
use Rattle.tt_board.specs.declared.Colour.{Colour}
use Rattle.tt_board.specs.Position.{Colouring}
use Rattle.tt_board.specs.Reach.{entry_at}
use Rattle.tt_board.specs.Around.{AreOn, IsBesideSome}
use Rattle.tt_board.specs.laws.NearLaws.{near_back}
use Rattle.tt_life.specs.Life.{Points, AreOnBoard, StoneTouches, IsEyeOf, HasTwoEyes, HasTwoEyesAt}
use Rattle.tt_life.specs.inside.Linked.{points_in, IsLinked, IsLinkedSet, IsWalled, IsSubset, IsEyeAt}
use Rattle.tt_life.proofs.LinkedLemmas.{in_points, points_on_board, bit_of_point, linked_itself, linked_all, linked_join, linked_more, linked_in, linked_back, linked_points}
use Rattle.tt_life.proofs.LinkedSetLemmas.{small}

-- ---- bits

-- a set within another, as bits
pub within_of : (s : Size) (a b : List ℕ) → IsWithinUnion a b b → IsSubset (points_in s a) (points_in s b)
within_of s a b u q h =
    let in_q = points_on_board s a q h in
    in_points s b q in_q (elim (or_cases _ _ (u q (small s q in_q) (bit_of_point s a q h))) [ inl on ↦ on | inr on ↦ on ])

pub within_to : (s : Size) (a b : List ℕ) → AreOn s a → IsSubset (points_in s a) (points_in s b) → IsWithinUnion a b b
within_to s a b on w q lt h = elim (cases_lt q (point_count s)) [
  | inl below ↦ or_left _ _ (bit_of_point s b q (w q (in_points s a q below h)))
  | inr past ↦ absurd (true≢false (sym h ∙ on q past lt))
]

-- the points beside an eye, cut off at the end of the board
module _ (s : Size) (eye stones beside cut : List ℕ) (beside_is : (p : ℕ) → p < point_count s → (bit_in beside p ≡ true) ↔ IsBesideSome s eye p)
    (count : ℕ) (all : count ≡ point_count s) (cut_kept : (q : ℕ) → q < BITS → q < count → bit_in cut q ≡ bit_in beside q)
    (cut_none : (q : ℕ) → q < BITS → count ≤ q → bit_in cut q ≡ false) where
  pub walled_of : IsWithinUnion cut eye stones → IsWalled s (points_in s stones) (points_in s eye)
  walled_of u p q in_eye near =
      let in_q = near.0 in
      let back = near_back s p q (points_on_board s eye p in_eye) near in
      let on = (beside_is q in_q).1 (p, back, bit_of_point s eye p in_eye) in
      elim (or_cases _ _ (u q (small s q in_q) (cut_kept q (small s q in_q) (omega arith) ∙ on))) [
        | inl inside ↦ inl (in_points s eye q in_q inside)
        | inr stone ↦ inr (in_points s stones q in_q stone)
      ]

  pub walled_to : IsWalled s (points_in s stones) (points_in s eye) → IsWithinUnion cut eye stones
  walled_to w q lt h = elim (cases_lt q (point_count s)) [
    | inl in_q ↦
        let way = (beside_is q in_q).0 (sym (cut_kept q lt (omega arith)) ∙ h) in
        elim (w way.0 q (in_points s eye way.0 way.1.0 way.2) (near_back s q way.0 in_q way.1)) [
          | inl inside ↦ or_left _ _ (bit_of_point s eye q inside)
          | inr stone ↦ or_right _ _ (bit_of_point s stones q stone)
        ]
    | inr past ↦ absurd (true≢false (sym h ∙ cut_none q lt (omega arith)))
  ]

-- an eye that is near begins at an empty point that is near
module _ (s : Size) (near empty starts : List ℕ) (starts_are : (q : ℕ) → q < BITS → bit_in starts q ≡ (bit_in near q && bit_in empty q)) (p : ℕ) where
  pub start_empty : p < point_count s → bit_in starts p ≡ true → IsTrue (points_in s empty p)
  start_empty in_p on = in_points s empty p in_p (and_parts (bit_in near p) (bit_in empty p) (sym (starts_are p (small s p in_p)) ∙ on)).1

  pub start_needed : (space stones : Points) → bit_in starts p ≡ false → IsTrue (points_in s empty p) → IsEyeAt s space stones (points_in s near) p → ⊥
  start_needed space stones off e at =
      let in_p = points_on_board s empty p e in
      let there = bit_of_point s near p (at.0 p (linked_itself s space p)) in
      true≢false (sym (starts_are p (small s p in_p) ∙ and_from _ _ there (bit_of_point s empty p e)) ∙ off)

-- a linked set is an eye where its first point is at one
module _ (s : Size) (space stones near : Points) (p : ℕ) (eye : Points) (linked : IsLinkedSet s space p eye) where
  pub eye_at_of : IsWalled s stones eye → IsSubset eye near → IsEyeAt s space stones near p
  eye_at_of w n = (
    λ q l. n q ((linked q).1 l),
    λ x y l beside. elim (w x y ((linked x).1 l) beside) [ inl inside ↦ inl ((linked y).0 inside) | inr stone ↦ inr stone ],
  )

  pub walled_at : IsEyeAt s space stones near p → IsWalled s stones eye
  walled_at at x y inside beside = elim (at.1 x y ((linked x).0 inside) beside) [ inl l ↦ inl ((linked y).1 l) | inr stone ↦ inr stone ]

  pub within_at : IsEyeAt s space stones near p → IsSubset eye near
  within_at at q inside = at.0 q ((linked q).0 inside)

-- ---- two eyes

-- the stones of a side, one of them, what it touches, and the points without a stone of the side
module _ (s : Size) (c : Colouring) (k : Colour) (stones : Points) (own : (q : ℕ) → IsTrue (stones q) → entry_at c q ≡ Some k) (p : ℕ) (near space : Points)
    (near_is : (q : ℕ) → IsTrue (near q) ↔ StoneTouches s stones p q) (space_is : (q : ℕ) → IsTrue (space q) ↔ ((q < point_count s) × (entry_at c q ≢ Some k))) where
  space_on : AreOnBoard s space
  space_on q h = ((space_is q).0 h).0

  -- an empty point
  empty_space : (a : ℕ) → a < point_count s → entry_at c a ≡ None → IsTrue (space a)
  empty_space a in_a e = (space_is a).1 (in_a, λ h. none-some k (sym e ∙ h))

  -- an eye from an empty point
  eye_from : (a : ℕ) → a < point_count s → entry_at c a ≡ None → IsEyeAt s space stones near a → (eye : Points) → IsLinkedSet s space a eye → IsEyeOf s c k stones p eye
  eye_from a in_a e at eye linked = (
    record {
      on_board = λ q h. space_on q (linked_in s space a q (empty_space a in_a e) ((linked q).0 h));
      without_own = λ q h. ((space_is q).0 (linked_in s space a q (empty_space a in_a e) ((linked q).0 h))).1;
      has_empty = (a, (linked a).1 (linked_itself s space a), e);
      walled = walled_at s space stones near a eye linked at;
    },
    λ q h. (near_is q).0 (at.0 q ((linked q).0 h)),
  )

  -- the empty point of an eye, and what is linked to it
  module _ (eye : Points) (is : IsEyeOf s c k stones p eye) where
    abbrev first : ℕ
    first = is.0.has_empty.0

    linked_inside : (q : ℕ) → IsLinked s space first q → IsTrue (eye q)
    linked_inside q l =
        linked_all s space (λ x. IsTrue (eye x)) (λ x y h beside there. elim (is.0.walled x y h beside) [ inl inside ↦ inside | inr stone ↦ absurd (((space_is y).0 there).1 (own y stone)) ])
        first q is.0.has_empty.1 l

    eye_to : IsEyeAt s space stones near first
    eye_to = (
      λ q l. (near_is q).1 (is.1 q (linked_inside q l)),
      λ x y l beside. elim (is.0.walled x y (linked_inside x l) beside) [
        | inl inside ↦ inl (linked_more s space first x y l beside ((space_is y).1 (is.0.on_board y inside, is.0.without_own y inside)))
        | inr stone ↦ inr stone
      ],
    )

  -- two eyes from two empty points that aren't linked
  pub two_at : (a b : ℕ) → a < point_count s → b < point_count s → entry_at c a ≡ None → entry_at c b ≡ None → IsEyeAt s space stones near a → IsEyeAt s space stones near b
      → (IsLinked s space a b → ⊥) → HasTwoEyesAt s c k stones p a b
  two_at a b in_a in_b e d at_a at_b apart =
      let x = linked_points s space a space_on (empty_space a in_a e) in
      let y = linked_points s space b space_on (empty_space b in_b d) in (
        x.0,
        y.0,
        eye_from a in_a e at_a x.0 x.1,
        eye_from b in_b d at_b y.0 y.1,
        λ q in_x in_y. apart (linked_join s space a q b ((x.1 q).0 in_x) (linked_back s space space_on b q (empty_space b in_b d) ((y.1 q).0 in_y))),
        (x.1 a).1 (linked_itself s space a),
        (y.1 b).1 (linked_itself s space b),
        e,
        d,
      )

  -- and two such points from two eyes
  pub two_to : HasTwoEyes s c k stones p → (a : ℕ) × (b : ℕ) × ((a < point_count s) × (entry_at c a ≡ None) × IsEyeAt s space stones near a)
      × ((b < point_count s) × (entry_at c b ≡ None) × IsEyeAt s space stones near b) × (IsLinked s space a b → ⊥)
  two_to (x, y, is_x, is_y, apart) = (
    is_x.0.has_empty.0,
    is_y.0.has_empty.0,
    (is_x.0.on_board is_x.0.has_empty.0 is_x.0.has_empty.1, is_x.0.has_empty.2, eye_to x is_x),
    (is_y.0.on_board is_y.0.has_empty.0 is_y.0.has_empty.1, is_y.0.has_empty.2, eye_to y is_y),
    λ l. apart is_y.0.has_empty.0 (linked_inside x is_x is_y.0.has_empty.0 l) is_y.0.has_empty.1,
  )
