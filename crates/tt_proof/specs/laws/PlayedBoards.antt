-- The board that a play made, and what its child needs.
use Rattle.std.specs.Prelude.{◌≡◌, ◌≢◌, List, Contains}
use Rattle.tt_board.specs.Position.{Position}
use Rattle.tt_game.specs.declared.turns.Turn.{Turn}
use Rattle.tt_game.specs.declared.turns.Turn.TheVariants.{Play, Pass}

-- what a child needs in its parent's history too: all that it needs in its own, but the board that a play made
abbrev pub IsPassedUp : Turn → Position → List Position → Position → Type 0
IsPassedUp Pass board needs b = Contains needs b
IsPassedUp (Play p) board needs b = Contains needs b × (b ≢ board)

-- the turn is a play, and this is the board that it made
abbrev pub IsPlayed : Turn → Position → Position → Type 0
IsPlayed Pass board b = ⊥
IsPlayed (Play p) board b = b ≡ board
