-- The legal turns of a state as a list, and what each of them leads to.
use Rattle.std.specs.Prelude.{◌≡◌, ℕ, ◌-◌, ◌<◌, List, [], ◌∷◌, ◌++◌, length, map, Option, Bool, true, false, slice_index_or}
use Rattle.std.specs.List.{filter, range_with_len}
use Rattle.tt_sgf.specs.declared.size.Size.{Size}
use Rattle.tt_sgf.specs.Sizes.{point_count}
use Rattle.tt_game.specs.declared.frame.Frame.{Frame}
use Rattle.tt_game.specs.declared.turns.Turn.{Turn}
use Rattle.tt_game.specs.declared.turns.Turn.TheVariants.{Play, Pass}
use Rattle.tt_game.specs.declared.frame.Side.{Side}
use Rattle.tt_game.specs.Game.{State, winner_of, after, IsLegal}
use Rattle.tt_board.specs.Decided.{decision_test, decision_test_is_exact, decision_test_is_false}
use Rattle.tt_game.specs.Legality.{decide_legal}

-- the turn is a pass or names a point of a board of this size
abbrev pub IsTurnOnBoardOfSize : Size → Turn → Type 0
IsTurnOnBoardOfSize size Pass = Unit {0}
IsTurnOnBoardOfSize size (Play p) = p < point_count size

-- the turn is a pass or names a point of the board
abbrev pub IsTurnOnBoard : Frame → Turn → Type 0
IsTurnOnBoard f t = IsTurnOnBoardOfSize f.size t

-- a turn's number on a board of this size: that of its point; the pass comes last
abbrev pub turn_number_on_size : Size → Turn → ℕ
turn_number_on_size size (Play p) = p
turn_number_on_size size Pass = point_count size

abbrev pub turn_number : Frame → Turn → ℕ
turn_number f t = turn_number_on_size f.size t

-- the turns rise by their numbers
abbrev pub IsRising : Frame → List Turn → Type 0
IsRising f ts = (i j : ℕ) (d : Turn) → i < j → j < length ts → turn_number f (slice_index_or ts i d) < turn_number f (slice_index_or ts j d)

-- the plays on the first n points
abbrev pub plays_on_first : ℕ → List Turn
plays_on_first n = map (λ p. Play p) (range_with_len 0 n)

-- every turn that a board has: the play on each point in the order of the points' numbers, then the pass
unfoldable pub all_turns : Frame → List Turn
all_turns f = plays_on_first (point_count f.size) ++ Pass ∷ []

-- whether a turn is legal, as a test
pub is_legal : Frame → State → Turn → Bool
is_legal f s t = decision_test (decide_legal f s t)

-- the test is true exactly of the legal turns, and false of the others
pub is_legal_is_exact : (f : Frame) (s : State) (t : Turn) → (is_legal f s t ≡ true → IsLegal f s t) × (IsLegal f s t → is_legal f s t ≡ true) × ((IsLegal f s t → ⊥) → is_legal f s t ≡ false)
unfolding is_legal
is_legal_is_exact f s t = ((decision_test_is_exact (decide_legal f s t)).0, (decision_test_is_exact (decide_legal f s t)).1, decision_test_is_false (decide_legal f s t))

-- the legal turns, in the order of their numbers
unfoldable pub legal_turns : Frame → State → List Turn
legal_turns f s = filter (is_legal f s) (all_turns f)

-- a turn, and who has won after it
pub record TurnWithWinner : Type 0 where
  pub turn : Turn
  pub winner : Option Side

-- those of a state's turn
abbrev pub turn_with_winner : Frame → State → Turn → TurnWithWinner
turn_with_winner f s t = record { turn = t; winner = winner_of f (after f s t) }

-- the legal turns, each with who has won after it
unfoldable pub turns_with_winners : Frame → State → List TurnWithWinner
turns_with_winners f s = map (turn_with_winner f s) (legal_turns f s)

-- the plays of a state on the points from a number on
pub record PlaysFrom : Type 0 where
  pub frame : Frame
  pub state : State
  pub from : ℕ

-- those of them whose number is at least n: of the plays on the points from n on, and of the pass
unfoldable pub turns_with_winners_from : Frame → State → ℕ → List TurnWithWinner
turns_with_winners_from f s n = map (turn_with_winner f s) (filter (is_legal f s) (map (λ p. Play p) (range_with_len n (point_count f.size - n)) ++ Pass ∷ []))
