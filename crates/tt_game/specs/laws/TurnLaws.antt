-- What is so of the list of legal turns: it holds the legal turns, rises, and is no longer than a board has turns.
use Rattle.std.specs.Prelude.{◌≡◌, ℕ, ◌+◌, ◌-◌, ◌<◌, ◌≤◌, ◌↔◌, List, [], ◌∷◌, ◌++◌, length, map, Contains, Bool, true, false, cond}
use Rattle.std.specs.List.{filter, range_with_len}
use Rattle.std.proofs.Common.{zero, suc, inl, inr, sym, ap, subst, ◌∙◌, arith, get_or, add-one}
use Rattle.std.proofs.lemmas.Bool.{cases_lt}
use Rattle.std.proofs.lemmas.List.{get_or_append_left, get_or_push, length_push, length-map}
use Rattle.std.proofs.lemmas.List.Elements.{All-contains, All-filter, All-contains_itself, filter_passes, filter-append, Contains-push, Contains-push_cases, Contains-append_left, Contains-get_or}
use Rattle.std.proofs.lemmas.List.FromFn.{length-map-range_with_len, get_or-map-range_with_len, filter_of_map_range_with_len_more}
use Rattle.std.proofs.lemmas.List.Sums.{length-filter, count_by-le-length}
use Rattle.tt_sgf.specs.declared.size.Size.{Size}
use Rattle.tt_sgf.specs.laws.SizeLaws.{point_count_is_bounded}
use Rattle.tt_sgf.specs.Sizes.{point_count}
use Rattle.tt_game.specs.declared.frame.Frame.{Frame}
use Rattle.tt_game.specs.declared.turns.Turn.{Turn}
use Rattle.tt_game.specs.declared.turns.TheConstants.{MOST_LEGAL}
use Rattle.tt_game.specs.declared.turns.Turn.TheVariants.{Play, Pass}
use Rattle.tt_game.specs.Game.{State, IsLegal}
use Rattle.tt_game.specs.Turns.{IsTurnOnBoardOfSize, turn_number_on_size, turn_number, IsRising, plays_on_first, all_turns, is_legal}
use Rattle.tt_game.specs.Turns.{is_legal_is_exact, legal_turns, turn_with_winner, turns_with_winners, turns_with_winners_from}

-- what is in a list and passes a test is among those that pass
contains_filter : {X : Type 0} (p : X → Bool) (xs : List X) (x : X) → Contains xs x → p x ≡ true → Contains (filter p xs) x
contains_filter {X} p [] x h on = absurd (omega (arith, h.1))
contains_filter {X} p (y ∷ ys) x h on =
    elim h.0 as (λ k. k < suc (length ys) → get_or (y ∷ ys) k x ≡ x → Contains (cond (p y) (y ∷ filter p ys) (filter p ys)) x) [
      | zero ↦ λ lt e. let here : p y ≡ true = ap p e ∙ on in rw here (0, omega arith, e)
      | suc k ↦ λ lt e. later (p y) (contains_filter p ys x (k, omega (arith, lt), e) on)
    ] h.1 h.2
  where
    later : (b : Bool) → Contains (filter p ys) x → Contains (cond b (y ∷ filter p ys) (filter p ys)) x
    later true h = (suc h.0, omega (arith, h.1), h.2)
    later false h = h

-- and what is among those that pass is in the list and passes
filter_contains : {X : Type 0} (p : X → Bool) (xs : List X) (x : X) → Contains (filter p xs) x → Contains xs x × (p x ≡ true)
filter_contains p xs x h = (
  All-contains (Contains xs) (filter p xs) x (All-filter p (Contains xs) xs (All-contains_itself xs)) h,
  All-contains (λ y. p y ≡ true) (filter p xs) x (filter_passes p xs) h,
)

-- the plays on the first points have that on each of them
contains_plays : (n p : ℕ) → p < n → Contains (plays_on_first n) (Play p)
contains_plays n p lt =
    (p, omega (arith, length-map-range_with_len (λ q. Play q) 0 n), get_or-map-range_with_len (λ q. Play q) 0 n p p (Play p) lt (omega arith))

-- each legal turn is one that the board has
contains_all : (f : Frame) (s : State) (t : Turn) → IsLegal f s t → Contains (all_turns f) t
unfolding all_turns
contains_all f s Pass l = Contains-push (plays_on_first (point_count f.size)) Pass
contains_all f s (Play p) l = Contains-append_left (plays_on_first (point_count f.size)) (Pass ∷ []) (Play p) (contains_plays (point_count f.size) p l.1)

-- the list holds exactly the legal turns
pub contains-legal_turns : (f : Frame) (s : State) (t : Turn) → Contains (legal_turns f s) t ↔ IsLegal f s t
unfolding legal_turns
contains-legal_turns f s t = (
  λ has. (is_legal_is_exact f s t).0 (filter_contains (is_legal f s) (all_turns f) t has).1,
  λ l. contains_filter (is_legal f s) (all_turns f) t (contains_all f s t l) ((is_legal_is_exact f s t).1 l),
)

-- a turn behind others that rise, with a greater number than all of them
pub rising_push : (f : Frame) (ts : List Turn) (t : Turn) → IsRising f ts → ((u : Turn) → Contains ts u → turn_number f u < turn_number f t) → IsRising f (ts ++ t ∷ [])
rising_push f ts t up below i j d before in' =
    let len = length_push ts t in
    elim (cases_lt j (length ts)) [
      | inl inside ↦
          let ei = get_or_append_left ts (t ∷ []) d i (omega arith) in
          let ej = get_or_append_left ts (t ∷ []) d j inside in
          rw (ei, ej) (up i j d before inside)
      | inr last ↦
          let ei = get_or_append_left ts (t ∷ []) d i (omega arith) in
          let ej = get_or_push ts t d j (omega arith) in
          rw (ei, ej) (below (get_or ts i d) (Contains-get_or ts i d (omega arith)))
    ]

-- plays on points below n, rising
pub record RisesBelow (f : Frame) (n : ℕ) (ts : List Turn) : Type 0 where
  pub below : (t : Turn) → Contains ts t → turn_number f t < n
  pub rising : IsRising f ts

-- one more point: its play comes last, or stays out
rises_more : (f : Frame) (n : ℕ) (ts : List Turn) (b : Bool) → RisesBelow f n ts → RisesBelow f (n + 1) (ts ++ cond b (Play n ∷ []) [])
rises_more f n ts true h = record {
  below = λ t has. elim (Contains-push_cases ts (Play n) t has) [
    | inl old ↦ omega (arith, h.below t old)
    | inr new ↦ subst (λ u. turn_number f u < n + 1) new (omega arith)
  ];
  rising = rising_push f ts (Play n) h.rising h.below;
}
rises_more f n ts false h = rw Rattle.std.proofs.lemmas.List.append-nil (let r : RisesBelow f (n + 1) ts = record { below = λ t has. omega (arith, h.below t has); rising = h.rising } in r)

-- plays that pass a test rise as their points do
rises_plays : (f : Frame) (p : Turn → Bool) (n : ℕ) → RisesBelow f n (filter p (plays_on_first n))
rises_plays f p zero = record { below = λ t has. absurd (omega (arith, has.1)); rising = λ i j d before in'. absurd (omega arith) }
rises_plays f p (suc n) =
    let e : suc n ≡ n + 1 = sym (add-one n) in
    let more = filter_of_map_range_with_len_more p (λ q. Play q) 0 n n (omega arith) in
    subst (λ m. RisesBelow f m (filter p (plays_on_first m))) (sym e) (subst (λ ts. RisesBelow f (n + 1) ts) (sym more) (rises_more f n (filter p (plays_on_first n)) (p (Play n)) (rises_plays f p n)))

-- the list rises
pub rising-legal_turns : (f : Frame) (s : State) → IsRising f (legal_turns f s)
unfolding legal_turns all_turns
rising-legal_turns f s =
    let n = point_count f.size in
    let p = is_legal f s in
    subst (λ ts. IsRising f ts) (sym (filter-append p (plays_on_first n) (Pass ∷ []))) (last (p Pass) (rises_plays f p n))
  where
    last : (b : Bool) → RisesBelow f (point_count f.size) (filter (is_legal f s) (plays_on_first (point_count f.size)))
        → IsRising f (filter (is_legal f s) (plays_on_first (point_count f.size)) ++ cond b (Pass ∷ []) [])
    last true h = rising_push f _ Pass h.rising h.below
    last false h = rw Rattle.std.proofs.lemmas.List.append-nil h.rising

-- the list has no more turns than a board has
pub length-legal_turns : (f : Frame) (s : State) → length (legal_turns f s) ≤ MOST_LEGAL
unfolding legal_turns all_turns
length-legal_turns f s =
    let n = point_count f.size in
    let all : length (plays_on_first n ++ Pass ∷ []) ≡ length (plays_on_first n) + 1 = length_push (plays_on_first n) Pass in
    omega (
      arith,
      length-filter (is_legal f s) (plays_on_first n ++ Pass ∷ []),
      count_by-le-length (is_legal f s) (plays_on_first n ++ Pass ∷ []),
      all,
      length-map-range_with_len (λ q. Play q) 0 n,
      point_count_is_bounded f.size,
    )

-- ---- the legal turns, turn by turn

-- a legal turn lies on the board
pub legal_turn_is_on_board : (f : Frame) (s : State) (t : Turn) → IsLegal f s t → IsTurnOnBoardOfSize f.size t
legal_turn_is_on_board f s (Play p) l = l.1
legal_turn_is_on_board f s Pass l = tt

-- each of the turns is legal
abbrev pub EachIsLegal : Frame → State → List Turn → Type 0
EachIsLegal f s [] = Unit {0}
EachIsLegal f s (t ∷ ts) = IsLegal f s t × EachIsLegal f s ts

-- the turns lie on the board, and their numbers rise from this one on
abbrev pub RisesFrom : Size → ℕ → List Turn → Type 0
RisesFrom size n [] = Unit {0}
RisesFrom size n (t ∷ ts) = (n ≤ turn_number_on_size size t) × IsTurnOnBoardOfSize size t × RisesFrom size (turn_number_on_size size t + 1) ts

-- turns that are legal one by one are all legal
each_legal : (f : Frame) (s : State) (ts : List Turn) → ((i : ℕ) → i < length ts → IsLegal f s (get_or ts i Pass)) → EachIsLegal f s ts
each_legal f s [] h = tt
each_legal f s (t ∷ ts) h = (h 0 (omega arith), each_legal f s ts (λ i l. h (suc i) (omega (arith, l))))

-- the list has legal turns only
pub legal_turns_are_legal : (f : Frame) (s : State) → EachIsLegal f s (legal_turns f s)
legal_turns_are_legal f s = each_legal f s (legal_turns f s) (λ i l. (contains-legal_turns f s (get_or (legal_turns f s) i Pass)).0 (Contains-get_or (legal_turns f s) i Pass l))

-- legal turns in rising order rise from any number on that the first isn't below
rises_on : (f : Frame) (s : State) (n : ℕ) (ts : List Turn) → EachIsLegal f s ts → IsRising f ts → (0 < length ts → n ≤ turn_number f (get_or ts 0 Pass))
    → RisesFrom f.size n ts
rises_on f s n [] l up from = tt
rises_on f s n (t ∷ ts) l up from = (
  from (omega arith),
  legal_turn_is_on_board f s t l.0,
  rises_on f s (turn_number_on_size f.size t + 1) ts l.1 (λ i j d h k. up (suc i) (suc j) d (omega (arith, h)) (omega (arith, k)))
      (λ h. omega (arith, up 0 1 Pass (omega arith) (omega (arith, h)))),
)

-- the list rises from 0 on
pub legal_turns_rise_from_0 : (f : Frame) (s : State) → RisesFrom f.size 0 (legal_turns f s)
legal_turns_rise_from_0 f s = rises_on f s 0 (legal_turns f s) (legal_turns_are_legal f s) (rising-legal_turns f s) (λ h. omega arith)

-- from the first number on the successors are all
pub turns_from_0_are_all : (f : Frame) (s : State) → turns_with_winners_from f s 0 ≡ turns_with_winners f s
unfolding turns_with_winners_from turns_with_winners legal_turns all_turns
turns_from_0_are_all f s =
    let e : point_count f.size - 0 ≡ point_count f.size = omega arith in
    ap (λ k. map (turn_with_winner f s) (filter (is_legal f s) (map (λ p. Play p) (range_with_len 0 k) ++ Pass ∷ []))) e
