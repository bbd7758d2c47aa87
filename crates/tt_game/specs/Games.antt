-- Games of Black and White under the Tromp-Taylor rules, with no region and no target.
use Rattle.std.specs.Prelude.{◌≡◌, ℕ, ◌==◌, cond, List, replicate, Option, Some, None}
use Rattle.tt_sgf.specs.declared.size.Size.{Size}
use Rattle.tt_sgf.specs.Sizes.{point_count}
use Rattle.tt_board.specs.declared.Colour.{Colour}
use Rattle.tt_board.specs.declared.Colour.TheVariants.{Black}
use Rattle.tt_board.specs.Position.{Colouring}
use Rattle.tt_board.specs.Reach.{entry_at}
use Rattle.tt_board.specs.Play.{play_of, other, is_empty}
use Rattle.tt_game.specs.declared.faults.Why.{Why}
use Rattle.tt_game.specs.declared.faults.Why.TheVariants.{Over, Occupied, Repeats}
use Rattle.tt_game.specs.declared.faults.Refused.{Refused}
use Rattle.tt_game.specs.declared.faults.Refused.TheVariants.{Illegal, NoMemory}
use Rattle.tt_game.specs.declared.turns.Turn.{Turn}
use Rattle.tt_game.specs.declared.turns.Turn.TheVariants.{Play, Pass}
use Rattle.tt_game.specs.GameHistory.{GameHistory, so_far, with_next_colouring, with_pass, new_game_history}
use Rattle.tt_game.specs.Superko.{repeats}

-- a game: its board's size, the colourings before the present one (oldest first), the present one, who moves, and the
-- passes in a row
pub record GameState : Type 0 where
  pub size : Size
  pub earlier : List Colouring
  pub present : Colouring
  pub to_move : Colour
  pub passes : ℕ

-- the history of a game
abbrev pub game_history : GameState → GameHistory
game_history s = record { size = s.size; earlier = s.earlier; present = s.present; passes = s.passes }

-- the game of a history at which a colour moves
abbrev pub game_from_history : GameHistory → Colour → GameState
game_from_history c k = record { size = c.size; earlier = c.earlier; present = c.present; to_move = k; passes = c.passes }

-- every colouring so far, oldest first, the present one last
abbrev pub game_colourings : GameState → List Colouring
game_colourings s = so_far (game_history s)

-- the colouring that a move on p makes
abbrev pub colouring_after_move : GameState → ℕ → Colouring
colouring_after_move s p = play_of s.size s.present s.to_move p

-- why a move is refused: a stone is there, or the colouring has been
abbrev pub move_refusal : GameState → ℕ → Option Why
move_refusal s p = cond (is_empty (entry_at s.present p)) (cond (repeats (game_colourings s) (colouring_after_move s p)) (Some Repeats) None) (Some Occupied)

-- why a turn is refused: two passes ended the game, or the move is refused
abbrev pub refusal_of : GameState → Turn → Option Why
refusal_of s Pass = cond (s.passes == 2) (Some Over) None
refusal_of s (Play p) = cond (s.passes == 2) (Some Over) (move_refusal s p)

-- the game after a turn
abbrev pub game_after_turn : GameState → Turn → GameState
game_after_turn s Pass = game_from_history (with_pass (game_history s)) (other s.to_move)
game_after_turn s (Play p) = game_from_history (with_next_colouring (game_history s) (colouring_after_move s p)) (other s.to_move)

-- an error of a push
abbrev pub IsGamePushError : GameState → Turn → Refused → Type 0
IsGamePushError s t (Illegal why) = refusal_of s t ≡ Some why
IsGamePushError s t NoMemory = refusal_of s t ≡ None

-- a game that begins with this colouring alone
abbrev pub begun_with : Size → Colouring → Colour → GameState
begun_with size c k = game_from_history (new_game_history size c) k

-- before the first turn: the empty board, and Black moves
abbrev pub empty_game : Size → GameState
empty_game size = begun_with size (replicate (point_count size) None) Black
