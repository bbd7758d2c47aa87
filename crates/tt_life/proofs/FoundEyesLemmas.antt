-- A look at the eye of each empty point that is near; one eye is looked at once.
use Rattle.std.proofs.Common.{◌≡◌, ℕ, ◌+◌, ◌<◌, ◌≤◌, ◌↔◌, ◌&&◌, ◌||◌, not, List, true, false, IsTrue, inl, inr, sym, ap, ◌∙◌, arith}
use Rattle.std.proofs.lemmas.Bool.{cases_eq, cases_lt, cases_Bool, true≢false, and_parts, and_from, not-true, not_from_false, or_cases, or_left, or_right}
use Rattle.tt_sgf.specs.declared.size.Size.{Size}
use Rattle.tt_sgf.specs.declared.bits.TheConstants.{BITS}
use Rattle.tt_sgf.specs.Sizes.{point_count}
use Rattle.tt_sgf.specs.MachineWords.{bit_in}
use Rattle.tt_board.specs.Around.{AreOn}
use Rattle.tt_life.specs.inside.Linked.{points_in, IsLinked, IsLinkedSet, IsWalled, IsSubset, IsEyeAt, IsAtEye, IsAtOneEye, AreAtTwoEyes, IsSoundGround}
use Rattle.tt_life.specs.declared.elimination.Ground.{Ground}
use Rattle.tt_life.proofs.LinkedLemmas.{in_points, points_on_board, bit_of_point, linked_itself, linked_join, linked_back}
use Rattle.tt_life.proofs.LinkedSetLemmas.{small}
use Rattle.tt_life.proofs.EyeLemmas.{start_empty, start_needed, eye_at_of, walled_at, within_at}
use Rattle.tt_life.proofs.SiftLemmas.{same_chain, none_left}

-- the empty points before p that are near are done, and of those done the ones at an eye are found
pub record AreEyesFound (s : Size) (space near empty stones eyes done : List ℕ) (p : ℕ) : Type 0 where
  pub done_on : AreOn s done
  pub covers : (q : ℕ) → q < p → q < point_count s → bit_in near q ≡ true → bit_in empty q ≡ true → bit_in done q ≡ true
  pub sound : (q : ℕ) → q < BITS → bit_in eyes q ≡ true → IsTrue (points_in s empty q) × IsEyeAt s (points_in s space) (points_in s stones) (points_in s near) q
  pub full : (q : ℕ) → q < BITS → bit_in done q ≡ true → IsTrue (points_in s empty q) → IsEyeAt s (points_in s space) (points_in s stones) (points_in s near) q → bit_in eyes q ≡ true

module _ (s : Size) (space near empty stones : List ℕ) where
  pub eyes_first : (eyes done : List ℕ) → ((q : ℕ) → q < BITS → bit_in eyes q ≡ false) → ((q : ℕ) → q < BITS → bit_in done q ≡ false)
      → AreEyesFound s space near empty stones eyes done 0
  eyes_first eyes done none none' = record {
    done_on = λ q past lt. none' q lt;
    covers = λ q before in_q h e. absurd (omega arith);
    sound = λ q lt h. absurd (true≢false (sym h ∙ none q lt));
    full = λ q lt h e at. absurd (true≢false (sym h ∙ none' q lt));
  }

  -- none of those before p is left
  pub eyes_to : (eyes done starts left : List ℕ) (n p : ℕ) → ((q : ℕ) → q < BITS → bit_in starts q ≡ (bit_in near q && bit_in empty q))
      → ((q : ℕ) → q < BITS → bit_in left q ≡ (bit_in starts q && not (bit_in done q))) → ((q : ℕ) → n ≤ q → q < p → q < BITS → bit_in left q ≡ false)
      → AreEyesFound s space near empty stones eyes done n → AreEyesFound s space near empty stones eyes done p
  eyes_to eyes done starts left n p starts_are left_is none was = record {
    done_on = was.done_on;
    covers = λ q before in_q h e. elim (cases_lt q n) [
      | inl early ↦ was.covers q early in_q h e
      | inr late ↦
          let lt = small s q in_q in
          none_left (bit_in starts q) (bit_in done q) (starts_are q lt ∙ and_from _ _ h e) (sym (left_is q lt) ∙ none q late before lt)
    ];
    sound = was.sound;
    full = was.full;
  }

  -- an eye space
  module _ (eyes done eye more : List ℕ) (p : ℕ) (mine : IsTrue (points_in s space p)) (linked : IsLinkedSet s (points_in s space) p (points_in s eye))
      (eye_on : AreOn s eye) (more_is : (q : ℕ) → q < BITS → bit_in more q ≡ (bit_in done q || bit_in eye q)) (was : AreEyesFound s space near empty stones eyes done p) where
    covered : (q : ℕ) → q < p + 1 → q < point_count s → bit_in near q ≡ true → bit_in empty q ≡ true → bit_in more q ≡ true
    covered q before in_q h e = more_is q (small s q in_q) ∙ elim (cases_eq q p) [
      | inl same ↦ or_right _ _ (ap (bit_in eye) same ∙ bit_of_point s eye p ((linked p).1 (linked_itself s (points_in s space) p)))
      | inr apart ↦ or_left _ _ (was.covers q (omega arith) in_q h e)
    ]

    more_on : AreOn s more
    more_on q past lt = more_is q lt ∙ ap (λ b. b || bit_in eye q) (was.done_on q past lt) ∙ eye_on q past lt

    -- that is none
    pub eyes_none : (IsWalled s (points_in s stones) (points_in s eye) → IsSubset (points_in s eye) (points_in s near) → ⊥) → AreEyesFound s space near empty stones eyes more (p + 1)
    eyes_none none = record {
      done_on = more_on;
      covers = covered;
      sound = was.sound;
      full = λ q lt h e at. elim (or_cases _ _ (sym (more_is q lt) ∙ h)) [
        | inl old ↦ was.full q lt old e at
        | inr new ↦
            let there = in_points s eye q (points_on_board s empty q e) new in
            let from = same_chain s space eye p mine linked q there in
            absurd (none (walled_at s (points_in s space) (points_in s stones) (points_in s near) q (points_in s eye) from at)
            (within_at s (points_in s space) (points_in s stones) (points_in s near) q (points_in s eye) from at))
      ];
    }

    -- that is one
    pub eyes_one : IsWalled s (points_in s stones) (points_in s eye) → IsSubset (points_in s eye) (points_in s near)
        → (starts of_it made : List ℕ) → ((q : ℕ) → q < BITS → bit_in starts q ≡ (bit_in near q && bit_in empty q))
        → ((q : ℕ) → q < BITS → bit_in of_it q ≡ (bit_in eye q && bit_in starts q)) → ((q : ℕ) → q < BITS → bit_in made q ≡ (bit_in eyes q || bit_in of_it q))
        → AreEyesFound s space near empty stones made more (p + 1)
    eyes_one walled within starts of_it made starts_are of_it_is made_is = record {
      done_on = more_on;
      covers = covered;
      sound = λ q lt h. elim (or_cases _ _ (sym (made_is q lt) ∙ h)) [
        | inl old ↦ was.sound q lt old
        | inr new ↦
            let both = and_parts (bit_in eye q) (bit_in starts q) (sym (of_it_is q lt) ∙ new) in
            elim (cases_lt q (point_count s)) [
              | inl in_q ↦ (
                start_empty s near empty starts starts_are q in_q both.1,
                eye_at_of s (points_in s space) (points_in s stones) (points_in s near) q (points_in s eye) (same_chain s space eye p mine linked q (in_points s eye q in_q both.0)) walled within,
              )
              | inr past ↦ absurd (true≢false (sym both.0 ∙ eye_on q past lt))
            ]
      ];
      full = λ q lt h e at. made_is q lt ∙ elim (or_cases _ _ (sym (more_is q lt) ∙ h)) [
        | inl old ↦ or_left _ _ (was.full q lt old e at)
        | inr new ↦ elim (cases_Bool (bit_in starts q)) [
          | inl on ↦ or_right _ _ (of_it_is q lt ∙ and_from _ _ new on)
          | inr off ↦ absurd (start_needed s near empty starts starts_are q (points_in s space) (points_in s stones) off e at)
        ]
      ];
    }

  -- in the end those at an eye are found
  pub eyes_all : (eyes done : List ℕ) (p : ℕ) → point_count s ≤ p → AreEyesFound s space near empty stones eyes done p → (q : ℕ) → q < BITS → (bit_in eyes q ≡ true)
      ↔ (IsTrue (points_in s empty q) × IsEyeAt s (points_in s space) (points_in s stones) (points_in s near) q)
  eyes_all eyes done p end was q lt = (
    λ on. was.sound q lt on,
    λ h.
        let in_q = points_on_board s empty q h.0 in
        let there = bit_of_point s near q (h.1.0 q (linked_itself s (points_in s space) q)) in
        was.full q lt (was.covers q (omega arith) in_q there (bit_of_point s empty q h.0)) h.0 h.1,
  )

-- ---- two of the eyes that are found

module _ (s : Size) (g : Ground) (sound : IsSoundGround s g) (stones near eyes : List ℕ)
    (eyes_are : (q : ℕ) → q < BITS → (bit_in eyes q ≡ true) ↔ IsAtEye s g (points_in s stones) (points_in s near) q) where
  on_board : (q : ℕ) → IsAtEye s g (points_in s stones) (points_in s near) q → q < BITS
  on_board q at = small s q (points_on_board s g.empty.words q at.0)

  -- where none is found all are at one
  pub one_of_none : ((q : ℕ) → q < BITS → bit_in eyes q ≡ false) → IsAtOneEye s g (points_in s stones) (points_in s near)
  one_of_none none a b at_a at_b = absurd (true≢false (sym ((eyes_are a (on_board a at_a)).1 at_a) ∙ none a (on_board a at_a)))

  module _ (one : ℕ) (in_one : one < BITS) (on : bit_in eyes one ≡ true) (eye rest : List ℕ)
      (eye_linked : IsLinkedSet s (points_in s g.space.words) one (points_in s eye))
      (rest_is : (q : ℕ) → q < BITS → bit_in rest q ≡ (bit_in eyes q && not (bit_in eye q))) where
    -- where none is left behind one eye all are at it
    pub one_of_rest : ((q : ℕ) → q < BITS → bit_in rest q ≡ false) → IsAtOneEye s g (points_in s stones) (points_in s near)
    one_of_rest none a b at_a at_b =
        let space = points_in s g.space.words in
        let mine = sound.empty_within one ((eyes_are one in_one).0 on).0 in
        linked_join s space a one b (linked_back s space (points_on_board s g.space.words) one a mine (in_eye a at_a)) (in_eye b at_b)
      where
        in_eye : (q : ℕ) → IsAtEye s g (points_in s stones) (points_in s near) q → IsLinked s (points_in s g.space.words) one q
        in_eye q at = elim (cases_Bool (bit_in eye q)) [
          | inl inside ↦ (eye_linked q).0 (in_points s eye q (points_on_board s g.empty.words q at.0) inside)
          | inr out ↦ absurd (true≢false (sym (rest_is q (on_board q at) ∙ and_from _ _ ((eyes_are q (on_board q at)).1 at) (not_from_false _ out)) ∙ none q (on_board q at)))
        ]

    -- and one that is left is at another
    pub two_of_rest : (q : ℕ) → q < BITS → bit_in rest q ≡ true → AreAtTwoEyes s g (points_in s stones) (points_in s near) one q
    two_of_rest q lt h =
        let parts = and_parts (bit_in eyes q) (not (bit_in eye q)) (sym (rest_is q lt) ∙ h) in
        ((eyes_are one in_one).0 on, (eyes_are q lt).0 parts.0, λ l. true≢false (sym (bit_of_point s eye q ((eye_linked q).1 l)) ∙ not-true _ parts.1))
