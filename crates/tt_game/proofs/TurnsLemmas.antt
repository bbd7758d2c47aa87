-- The walk over the points, one point after the other.
use Rattle.std.proofs.Common.{◌≡◌, ℕ, zero, suc, ◌+◌, ◌-◌, ◌<◌, ◌≤◌, List, [], ◌∷◌, ◌++◌, map, None, Bool, true, false, cond, refl, sym, ap, ◌∙◌, arith}
use Rattle.std.specs.List.{filter, range_with_len}
use Rattle.std.proofs.lemmas.List.{append_assoc}
use Rattle.tt_sgf.specs.Sizes.{point_count}
use Rattle.tt_game.specs.declared.frame.Frame.{Frame}
use Rattle.tt_game.specs.declared.turns.Turn.{Turn}
use Rattle.tt_game.specs.declared.turns.Turn.TheVariants.{Play, Pass}
use Rattle.tt_game.specs.Turns.{TurnWithWinner, all_turns, is_legal, is_legal_is_exact, legal_turns, turn_with_winner, turns_with_winners, turns_with_winners_from}
use Rattle.tt_game.specs.Game.{State, IsLegal, winner_of}

-- the first point of those that are left is the first in the list
first : (f : Frame) (s : State) (n : ℕ) → n < point_count f.size
    → turns_with_winners_from f s n ≡ cond (is_legal f s (Play n)) (turn_with_winner f s (Play n) ∷ turns_with_winners_from f s (n + 1)) (turns_with_winners_from f s (n + 1))
unfolding turns_with_winners_from
first f s n lt =
    let rest = filter (is_legal f s) (map (λ p. Play p) (range_with_len (n + 1) (point_count f.size - (n + 1))) ++ Pass ∷ []) in
    let e : point_count f.size - n ≡ suc (point_count f.size - (n + 1)) = omega (arith, lt) in
    ap (λ k. map (turn_with_winner f s) (filter (is_legal f s) (map (λ p. Play p) (range_with_len n k) ++ Pass ∷ []))) e
    ∙ mapped (is_legal f s (Play n)) rest
  where
    mapped : (b : Bool) (ts : List Turn) → map (turn_with_winner f s) (cond b (Play n ∷ ts) ts) ≡ cond b (turn_with_winner f s (Play n) ∷ map (turn_with_winner f s) ts) (map (turn_with_winner f s) ts)
    mapped true ts = refl
    mapped false ts = refl

-- a legal play comes first, and none is passed over
pub from_more : (f : Frame) (s : State) (n : ℕ) → IsLegal f s (Play n) → turns_with_winners_from f s n ≡ turn_with_winner f s (Play n) ∷ turns_with_winners_from f s (n + 1)
from_more f s n l =
    first f s n l.1 ∙ ap (λ b. cond b (turn_with_winner f s (Play n) ∷ turns_with_winners_from f s (n + 1)) (turns_with_winners_from f s (n + 1))) ((is_legal_is_exact f s (Play n)).1 l)

pub from_skip : (f : Frame) (s : State) (n : ℕ) → n < point_count f.size → (IsLegal f s (Play n) → ⊥) → turns_with_winners_from f s n ≡ turns_with_winners_from f s (n + 1)
from_skip f s n lt h =
    first f s n lt ∙ ap (λ b. cond b (turn_with_winner f s (Play n) ∷ turns_with_winners_from f s (n + 1)) (turns_with_winners_from f s (n + 1))) ((is_legal_is_exact f s (Play n)).2 h)

-- so from one point to the next with a legal play nothing changes
gap_of : (f : Frame) (s : State) (n d : ℕ) → n + d ≤ point_count f.size → ((q : ℕ) → n ≤ q → q < n + d → IsLegal f s (Play q) → ⊥) → turns_with_winners_from f s n ≡ turns_with_winners_from f s (n + d)
gap_of f s n zero le none = let here : n ≡ n + 0 = omega arith in ap (turns_with_winners_from f s) here
gap_of f s n (suc d) le none =
    let more : n + d + 1 ≡ n + suc d = omega arith in
    gap_of f s n d (omega (arith, le)) (λ q after before. none q after (omega arith))
    ∙ from_skip f s (n + d) (omega (arith, le)) (none (n + d) (omega arith) (omega arith))
    ∙ ap (turns_with_winners_from f s) more

pub from_gap : (f : Frame) (s : State) (n m : ℕ) → n ≤ m → m ≤ point_count f.size → ((q : ℕ) → n ≤ q → q < m → IsLegal f s (Play q) → ⊥) → turns_with_winners_from f s n ≡ turns_with_winners_from f s m
from_gap f s n m le in' none =
    let d : n + (m - n) ≡ m = omega arith in
    gap_of f s n (m - n) (omega (arith, d, in')) (λ q after before. none q after (omega arith)) ∙ ap (turns_with_winners_from f s) d

-- behind the last point nobody plays, and only the pass is left
last : (f : Frame) (s : State) → winner_of f s ≡ None → turns_with_winners_from f s (point_count f.size) ≡ turn_with_winner f s Pass ∷ []
unfolding turns_with_winners_from
last f s on =
    let none : point_count f.size - point_count f.size ≡ 0 = omega arith in
    let pass : is_legal f s Pass ≡ true = (is_legal_is_exact f s Pass).1 on in
    ap (λ k. map (turn_with_winner f s) (filter (is_legal f s) (map (λ p. Play p) (range_with_len (point_count f.size) k) ++ Pass ∷ []))) none
    ∙ ap (λ b. map (turn_with_winner f s) (cond b (Pass ∷ []) [])) pass

pub from_last : (f : Frame) (s : State) (n : ℕ) → n ≤ point_count f.size → winner_of f s ≡ None → ((q : ℕ) → n ≤ q → IsLegal f s (Play q) → ⊥)
    → turns_with_winners_from f s n ≡ turn_with_winner f s Pass ∷ []
from_last f s n le on none = from_gap f s n (point_count f.size) le (omega arith) (λ q after before. none q after) ∙ last f s on

-- no turn is legal once somebody has won
over : (f : Frame) (s : State) → (winner_of f s ≡ None → ⊥) → (t : Turn) → is_legal f s t ≡ false
over f s won Pass = (is_legal_is_exact f s Pass).2 won
over f s won (Play p) = (is_legal_is_exact f s (Play p)).2 (λ l. won l.0)

-- a test that nothing passes leaves nothing of a list
nothing : {X : Type 0} (p : X → Bool) (xs : List X) → ((x : X) → p x ≡ false) → filter p xs ≡ []
nothing p [] h = refl
nothing p (x ∷ xs) h = ap (λ b. cond b (x ∷ filter p xs) (filter p xs)) (h x) ∙ nothing p xs h

-- somebody has won: no turn is legal
pub none_over : (f : Frame) (s : State) → (winner_of f s ≡ None → ⊥) → [] ≡ turns_with_winners f s
unfolding turns_with_winners legal_turns
none_over f s won = sym (ap (map (turn_with_winner f s)) (nothing (is_legal f s) (all_turns f) (over f s won)))

-- the turns of what they lead to
pub turns_again : (f : Frame) (s : State) (ts : List Turn) → map (λ (x : TurnWithWinner). x.turn) (map (turn_with_winner f s) ts) ≡ ts
turns_again f s [] = refl
turns_again f s (t ∷ ts) = ap (λ us. t ∷ us) (turns_again f s ts)

-- the turns of what the legal turns lead to are the legal turns
pub turns_of : (f : Frame) (s : State) → map (λ (x : TurnWithWinner). x.turn) (turns_with_winners f s) ≡ legal_turns f s
unfolding turns_with_winners
turns_of f s = turns_again f s (legal_turns f s)

-- the turns that were found, and those from a point on, are all; so they are where the first of these comes to the others
pub one_more : (f : Frame) (s : State) (found made : List Turn) (from p n : ℕ) → made ≡ found ++ Play p ∷ []
    → turns_with_winners_from f s from ≡ turn_with_winner f s (Play p) ∷ turns_with_winners_from f s (p + 1) → n ≡ p + 1
    → found ++ map (λ (x : TurnWithWinner). x.turn) (turns_with_winners_from f s from) ≡ legal_turns f s
    → made ++ map (λ (x : TurnWithWinner). x.turn) (turns_with_winners_from f s n) ≡ legal_turns f s
one_more f s found made from p n is more next all =
    ap (λ k. made ++ map (λ (x : TurnWithWinner). x.turn) (turns_with_winners_from f s k)) next
    ∙ ap (λ ts. ts ++ map (λ (x : TurnWithWinner). x.turn) (turns_with_winners_from f s (p + 1))) is
    ∙ append_assoc found (Play p ∷ []) (map (λ (x : TurnWithWinner). x.turn) (turns_with_winners_from f s (p + 1)))
    ∙ ap (λ xs. found ++ map (λ (x : TurnWithWinner). x.turn) xs) (sym more) ∙ all
