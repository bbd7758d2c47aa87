-- One side forces a win at every state: the colourings that are new run out.
use Rattle.std.proofs.Common.{◌≡◌, ◌≢◌, ℕ, zero, suc, ◌+◌, ◌-◌, ◌*◌, ◌^◌, ◌<◌, ◌≤◌, ◌⊎◌, List, [], ◌∷◌, ◌++◌, length, get_or, Contains, Option, Some, None, true, inl, inr, refl}
use Rattle.std.proofs.Common.{sym, subst, ◌∙◌, arith}
use Rattle.std.proofs.lemmas.Bool.{cases_eq, cases_lt, cases_Bool, false≢true, true≢false, cond-true, cond-false, eqb-false, ne_eqb}
use Rattle.std.proofs.lemmas.Option.{none-some}
use Rattle.std.proofs.lemmas.List.{length_push}
use Rattle.std.proofs.lemmas.List.Elements.{Contains-push, Contains-append_left, All-push, All-get_or, Contains-get_or}
use Rattle.tt_board.specs.declared.Colour.{Colour}
use Rattle.tt_board.specs.Play.{length-play_of}
use Rattle.tt_board.specs.Stones.{any_empty}
use Rattle.tt_sgf.specs.Sizes.{point_count}
use Rattle.tt_game.specs.declared.frame.Side.{Side}
use Rattle.tt_game.specs.declared.frame.Side.TheVariants.{Attacker, Defender}
use Rattle.tt_game.specs.declared.turns.Turn.{Turn}
use Rattle.tt_game.specs.declared.turns.Turn.TheVariants.{Play, Pass}
use Rattle.tt_game.specs.declared.frame.Frame.{Frame}
use Rattle.tt_game.specs.Game.{State, history, winner_of, colouring_after_play, after, opponent, IsLegal, Forces, side_colour, game_length_bound}
use Rattle.tt_game.proofs.GameHistoryLemmas.{twice}
use Rattle.tt_game.specs.Legality.{decide_legal}
use Rattle.tt_game.specs.GameLaws.{IsWellFormedState, SomeSideForces, TurnsKeepStates, ValuesAreForced}
use Rattle.tt_game.proofs.OneSide.{not_both}
use Rattle.tt_game.proofs.ValueLemmas.{colourings_of, count_less, complete, length-colourings_of, new_count, is_new, is_new_says}

-- fewer colourings are new once one more is in the history
fewer_new : (h : List (List (Option Colour))) (x : List (Option Colour)) (n : ℕ) → length x ≡ n → (Contains h x → ⊥) → new_count (h ++ x ∷ []) n < new_count h n
unfolding new_count
fewer_new h x n fits fresh =
    count_less (is_new h) (is_new (h ++ x ∷ [])) (colourings_of n)
    (λ c new. (is_new_says h c).1 (λ has. (is_new_says (h ++ x ∷ []) c).0 new (Contains-append_left h (x ∷ []) c has)))
    x (complete n x fits) ((is_new_says h x).1 fresh) ((is_new_says (h ++ x ∷ []) x).2 (Contains-push h x))

-- not all colourings are new
some_old : (h : List (List (Option Colour))) (x : List (Option Colour)) (n : ℕ) → length x ≡ n → Contains h x → new_count h n < 3 ^ n
unfolding new_count
some_old h x n fits has =
    let less = count_less (λ _. true) (is_new h) (colourings_of n) (λ _ _. refl) x (complete n x fits) refl ((is_new_says h x).2 has) in
    let all = Rattle.std.proofs.lemmas.List.Sums.count_by-le-length (λ (_ : List (Option Colour)). true) (colourings_of n) in
    omega (arith, less, all, length-colourings_of n)

-- who has won is known, and nobody only before the second pass
won : (f : Frame) (s : State) → ((w : Side) × (winner_of f s ≡ Some w)) ⊎ ((winner_of f s ≡ None) × (s.passes ≢ 2))
won f s = elim (cases_Bool (any_empty f.targets s.present)) [
  | inl dead ↦ inl (Attacker, cond-true _ _ _ dead)
  | inr alive ↦ elim (cases_eq s.passes 2) [
    | inl two ↦ inl (Defender, cond-false _ _ _ alive ∙ cond-true _ _ _ (Rattle.std.proofs.lemmas.Bool.eq-eqb s.passes 2 two))
    | inr less ↦ inr (cond-false _ _ _ alive ∙ cond-false _ _ _ (ne_eqb s.passes 2 less), less)
  ]
]

-- one of two things at each index: the first somewhere, or the second everywhere
some_or_all : (P Q : ℕ → Type 0) (n : ℕ) → ((k : ℕ) → k < n → P k ⊎ Q k) → ((k : ℕ) × (k < n) × P k) ⊎ ((k : ℕ) → k < n → Q k)
some_or_all P Q zero each = inr (λ k below. absurd (omega arith))
some_or_all P Q (suc n) each =
    elim (each n (omega arith)) [
      | inl p ↦ inl (n, omega arith, p)
      | inr q ↦ elim (some_or_all P Q n (λ k below. each k (omega arith))) [
        | inl h ↦ inl (h.0, omega (arith, h.1), h.2)
        | inr all ↦ inr (λ k below. elim (cases_eq k n) [ inl same ↦ subst Q (sym same) q | inr apart ↦ all k (omega arith) ])
      ]
    ]

-- how many turns are left at the most: two for each new colouring, and the passes still open
room : Frame → State → ℕ
room f s = 2 * new_count (history s) (point_count f.size) + (2 - s.passes)

-- one side or the other, said for either of the two sides
game_after_turn : (f : Frame) (side to : Side) (n : ℕ) (s : State) → Forces f Attacker n s ⊎ Forces f Defender n s → Forces f side n s ⊎ Forces f (opponent side) n s
game_after_turn f Attacker to n s h = h
game_after_turn f Defender to n s (inl a) = inr a
game_after_turn f Defender to n s (inr d) = inl d

back : (f : Frame) (side : Side) (n : ℕ) (s : State) → Forces f side n s ⊎ Forces f (opponent side) n s → Forces f Attacker n s ⊎ Forces f Defender n s
back f Attacker n s h = h
back f Defender n s (inl d) = inr d
back f Defender n s (inr a) = inl a

-- a side that has won forces its win at once
already : (f : Frame) (w : Side) (n : ℕ) (s : State) → winner_of f s ≡ Some w → Forces f Attacker n s ⊎ Forces f Defender n s
already f Attacker zero s e = inl e
already f Defender zero s e = inr e
already f Attacker (suc n) s e = inl (inl e)
already f Defender (suc n) s e = inr (inl e)

-- the best turn, where the values behind all legal turns are known
best : (f : Frame) (s : State) (n : ℕ) → winner_of f s ≡ None → ((t : Turn) → IsLegal f s t → Forces f s.to_move n (after f s t) ⊎ Forces f (opponent s.to_move) n (after f s t))
    → Forces f s.to_move (suc n) s ⊎ Forces f (opponent s.to_move) (suc n) s
best f s n on behind =
    elim (some_or_all (λ p. IsLegal f s (Play p) × Forces f s.to_move n (after f s (Play p))) (λ p. IsLegal f s (Play p) → Forces f (opponent s.to_move) n (after f s (Play p))) (point_count f.size)
    (λ p in_p. elim (decide_legal f s (Play p)) [
      | inr not_ ↦ inr (λ l. absurd (not_ l))
      | inl l ↦ elim (behind (Play p) l) [ inl mine ↦ inl (l, mine) | inr its ↦ inr (λ _. its) ]
    ])) [
      | inl h ↦ inl (inr (on, inl (refl, (Play h.0, h.2.0, h.2.1))))
      | inr plays ↦ elim (behind Pass on) [
        | inl mine ↦ inl (inr (on, inl (refl, (Pass, on, mine))))
        | inr its ↦ inr (inr (on, inr (sym (twice s.to_move), λ t l. every t l plays its)))
      ]
    ]
  where
    every : (t : Turn) → IsLegal f s t → ((p : ℕ) → p < point_count f.size → IsLegal f s (Play p) → Forces f (opponent s.to_move) n (after f s (Play p)))
        → Forces f (opponent s.to_move) n (after f s Pass) → Forces f (opponent s.to_move) n (after f s t)
    every Pass l plays its = its
    every (Play p) l plays its = plays p l.1 l

-- a legal turn leaves a state, with less room
smaller : (f : Frame) (s : State) (t : Turn) → IsWellFormedState f s → s.passes ≢ 2 → IsLegal f s t → IsWellFormedState f (after f s t) × (room f (after f s t) < room f s)
unfolding room
smaller f s Pass is less l =
    (record { sized = is.sized; passes = omega (arith, is.passes) }, omega (arith, is.passes))
smaller f s (Play p) is less l =
    let fits = length-play_of f.size s.present (side_colour f s.to_move) p in
    let fewer = fewer_new (history s) (colouring_after_play f s p) (point_count f.size) fits l.4 in (
      record {
        sized = All-push (λ c. length c ≡ point_count f.size) (history s) (colouring_after_play f s p) is.sized fits;
        passes = omega arith;
      },
      omega (arith, fewer, is.passes),
    )

-- one side forces a win within the room that is left
valued : (n : ℕ) (f : Frame) (s : State) → IsWellFormedState f s → room f s ≤ n → Forces f Attacker n s ⊎ Forces f Defender n s
unfolding room
valued zero f s is enough = elim (won f s) [
  | inl w ↦ already f w.0 zero s w.1
  | inr on ↦ absurd (on.1 (omega (arith, is.passes)))
]
valued (suc n) f s is enough = elim (won f s) [
  | inl w ↦ already f w.0 (suc n) s w.1
  | inr on ↦ back f s.to_move (suc n) s (best f s n on.0 (λ t l.
      let next = smaller f s t is on.1 l in
      game_after_turn f s.to_move s.to_move n (after f s t) (valued n f (after f s t) next.0 (omega (arith, next.1)))))
]

-- the room is at most the bound
fits : (f : Frame) (s : State) → IsWellFormedState f s → room f s ≤ game_length_bound f
unfolding room
fits f s is =
    let some : 0 < length (history s) = omega (arith, length_push s.earlier s.present) in
    let old = some_old (history s) (get_or (history s) 0 []) (point_count f.size) (All-get_or (λ c. length c ≡ point_count f.size) (history s) 0 [] some is.sized)
    (Contains-get_or (history s) 0 [] some) in
    omega (arith, old)

-- at every state one side forces a win, within the bound
pub some_side : SomeSideForces
some_side f s is = valued (game_length_bound f) f s is (fits f s is)

-- a legal turn leaves a state
pub state_after : TurnsKeepStates
state_after f s t is l = elim (won f s) [
  | inl w ↦ absurd (none-some w.0 (sym (nobody_won f s t l) ∙ w.1))
  | inr on ↦ (smaller f s t is on.1 l).0
]
  where
    nobody_won : (f : Frame) (s : State) (t : Turn) → IsLegal f s t → winner_of f s ≡ None
    nobody_won f s Pass l = l
    nobody_won f s (Play p) l = l.0

-- a state has a side's value where that side forces a win, and the side forces it within the bound
pub values_forced : ValuesAreForced
values_forced f s Attacker is = (
  λ v. v,
  λ n mine. elim (some_side f s is) [
    | inl a ↦ a
    | inr d ↦ absurd (not_both n (game_length_bound f) f s mine d)
  ],
)
values_forced f s Defender is = (
  λ v. elim (some_side f s is) [
    | inl a ↦ absurd (v a)
    | inr d ↦ d
  ],
  λ n mine a. not_both (game_length_bound f) n f s a mine,
)
