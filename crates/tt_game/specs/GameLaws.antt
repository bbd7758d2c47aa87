-- Laws of the game: not both sides force a win, one does, and a state's value says which.
use Rattle.std.specs.Prelude.{◌≡◌, ℕ, ◌≤◌, ◌⊎◌, ◌↔◌, length, All, Contains, List, None, Ok}
use Rattle.tt_sgf.specs.Sizes.{point_count}
use Rattle.tt_game.specs.declared.frame.Side.{Side}
use Rattle.tt_game.specs.declared.frame.Side.TheVariants.{Attacker, Defender}
use Rattle.tt_game.specs.declared.frame.Frame.{Frame}
use Rattle.tt_game.specs.Game.{State, history, winner_of, after, IsLegal, Forces, HasValue, game_length_bound, value_won_by}
use Rattle.tt_game.specs.Line.{LineWithUndo}
use Rattle.tt_game.specs.Problems.{problem_of}
use Rattle.tt_sgf.specs.declared.nodes.Node.{Node}
use Rattle.tt_game.specs.declared.turns.Turn.{Turn}
use Rattle.tt_game.specs.declared.turns.TheConstants.{MOST_LEGAL}
use Rattle.tt_game.specs.Turns.{legal_turns, IsRising}

-- not both sides force a win at one state
abbrev pub AtMostOneSideForces : Type 0
AtMostOneSideForces = (f : Frame) (s : State) (m n : ℕ) → Forces f Attacker m s → Forces f Defender n s → ⊥

-- a state as the game has them: each colouring has an entry for each point, and the passes are at most two
pub record IsWellFormedState (f : Frame) (s : State) : Type 0 where
  pub sized : All (λ c. length c ≡ point_count f.size) (history s)
  pub passes : s.passes ≤ 2

-- at every such state one side forces a win, within twice as many turns as there are colourings
abbrev pub SomeSideForces : Type 0
SomeSideForces = (f : Frame) (s : State) → IsWellFormedState f s → Forces f Attacker (game_length_bound f) s ⊎ Forces f Defender (game_length_bound f) s

-- such a state has a side's value exactly where that side forces a win, within some number of turns or within the bound
abbrev pub ValuesAreForced : Type 0
ValuesAreForced = (f : Frame) (s : State) (side : Side) → IsWellFormedState f s
    → (HasValue f s (value_won_by side) → Forces f side (game_length_bound f) s) × ((n : ℕ) → Forces f side n s → HasValue f s (value_won_by side))

-- a legal turn leads from such a state to another
abbrev pub TurnsKeepStates : Type 0
TurnsKeepStates = (f : Frame) (s : State) (t : Turn) → IsWellFormedState f s → IsLegal f s t → IsWellFormedState f (after f s t)

-- the list of legal turns holds the legal turns and no others, in rising order, and at most as many as a board has
abbrev pub LegalTurnsAreListed : Type 0
LegalTurnsAreListed = (f : Frame) (s : State) → ((t : Turn) → Contains (legal_turns f s) t ↔ IsLegal f s t) × IsRising f (legal_turns f s) × (length (legal_turns f s) ≤ MOST_LEGAL)

-- nobody has won at a problem
abbrev pub ProblemsHaveNoWinner : Type 0
ProblemsHaveNoWinner = (nodes : List Node) (p : LineWithUndo) → problem_of nodes ≡ Ok p → winner_of p.frame p.state ≡ None

-- the state of a problem is such a state
abbrev pub ProblemsAreStates : Type 0
ProblemsAreStates = (nodes : List Node) (p : LineWithUndo) → problem_of nodes ≡ Ok p → IsWellFormedState p.frame p.state
