-- The game of a problem: states, legal turns, who has won, and what a side can force. Turns, superko and the end by two
-- passes are those of the Tromp-Taylor rules; the region and the targets are the problem's.
use Rattle.std.specs.Prelude.{◌≡◌, ℕ, zero, suc, ◌+◌, ◌*◌, ◌^◌, ◌<◌, ◌⊎◌, List, [], ◌∷◌, ◌++◌, Option, Some, None, IsTrue, if◌then◌else◌, ◌==◌}
use Rattle.std.specs.FinSet as set
use Rattle.tt_board.specs.declared.Colour.{Colour}
use Rattle.tt_board.specs.Position.{Colouring, IsInHistory}
use Rattle.tt_board.specs.Reach.{entry_at}
use Rattle.tt_board.specs.Play.{play_of, other}
use Rattle.tt_board.specs.Stones.{any_empty}
use Rattle.tt_sgf.specs.Sizes.{point_count}
use Rattle.tt_game.specs.declared.frame.Side.{Side}
use Rattle.tt_game.specs.declared.frame.Side.TheVariants.{Attacker, Defender}
use Rattle.tt_game.specs.declared.turns.Turn.{Turn}
use Rattle.tt_game.specs.declared.turns.Turn.TheVariants.{Play, Pass}
use Rattle.tt_game.specs.declared.frame.Frame.{Frame}

-- a state: the colourings before the present one, oldest first; the present one; who moves; the passes in a row
pub record State : Type 0 where
  pub earlier : List Colouring
  pub present : Colouring
  pub to_move : Side
  pub passes : ℕ

-- all colourings so far, oldest first, the present one last
abbrev pub history : State → List Colouring
history s = s.earlier ++ s.present ∷ []

-- the other side
abbrev pub opponent : Side → Side
opponent Attacker = Defender
opponent Defender = Attacker

-- the colour of a side: the targets' stones are the defender's
abbrev pub side_colour : Frame → Side → Colour
side_colour f Attacker = other f.defender
side_colour f Defender = f.defender

-- the attacker has won where some target is empty, whoever emptied it; else the defender has after two passes in a row
abbrev pub winner_on : Frame → Colouring → ℕ → Option Side
winner_on f c passes = if any_empty f.targets c then Some Attacker else (if passes == 2 then Some Defender else None)

-- who has won at a state, if anybody
abbrev pub winner_of : Frame → State → Option Side
winner_of f s = winner_on f s.present s.passes

-- the colouring that a play of the side to move on p makes
abbrev pub colouring_after_play : Frame → State → ℕ → Colouring
colouring_after_play f s p = play_of f.size s.present (side_colour f s.to_move) p

-- nobody has won, and the turn is a pass, or a play on an empty point of the region that repeats no colouring, the
-- present one among them
abbrev pub IsLegal : Frame → State → Turn → Type 0
IsLegal f s Pass = winner_of f s ≡ None
IsLegal f s (Play p) =
    (winner_of f s ≡ None) × (p < point_count f.size) × (entry_at s.present p ≡ None) × IsTrue (set.contains f.region p) × (IsInHistory (history s) (colouring_after_play f s p) → ⊥)

-- a pass appends nothing and is counted; a play appends its colouring and ends the count
abbrev pub after : Frame → State → Turn → State
after f s Pass = record { earlier = s.earlier; present = s.present; to_move = opponent s.to_move; passes = s.passes + 1 }
after f s (Play p) = record { earlier = history s; present = colouring_after_play f s p; to_move = opponent s.to_move; passes = 0 }

-- the side can force its win within n turns
abbrev pub Forces : Frame → Side → ℕ → State → Type 0
Forces f side zero s = winner_of f s ≡ Some side
Forces f side (suc n) s =
    (winner_of f s ≡ Some side) ⊎ ((winner_of f s ≡ None) × (((s.to_move ≡ side) × ((t : Turn) × IsLegal f s t × Forces f side n (after f s t)))
    ⊎ ((s.to_move ≡ opponent side) × ((t : Turn) → IsLegal f s t → Forces f side n (after f s t)))))

-- the game-theoretic value of a problem
pub data Value : Type 0 where
  killed : Value
  lives : Value

-- twice as many turns as there are colourings of the board
abbrev pub game_length_bound : Frame → ℕ
game_length_bound f = 2 * 3 ^ point_count f.size

-- killed where the attacker forces a win within that many turns, else it lives. No win needs more: each play makes a new
-- colouring, and two passes in a row end the game. Where it lives the defender forces a win: `ValuesAreForced` of GameLaws
abbrev pub HasValue : Frame → State → Value → Type 0
HasValue f s killed = Forces f Attacker (game_length_bound f) s
HasValue f s lives = Forces f Attacker (game_length_bound f) s → ⊥

-- what a state comes to where the side wins
abbrev pub value_won_by : Side → Value
value_won_by Attacker = killed
value_won_by Defender = lives
