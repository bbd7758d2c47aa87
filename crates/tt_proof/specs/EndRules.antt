-- Where a strategy may end.
use Rattle.std.specs.Prelude.{◌≡◌, Some}
use Rattle.tt_game.specs.Game.{State, winner_of}
use Rattle.tt_game.specs.declared.frame.Side.{Side}
use Rattle.tt_game.specs.declared.frame.Frame.{Frame}
use Rattle.tt_life.specs.Life.{HasWonOrLives}

-- where its side has won; or there, and, for a strategy of the defender, where the attacker is to move and the targets are
-- unconditionally alive
pub data EndRule : Type 0 where
  at_win : EndRule
  at_win_or_life : EndRule

-- a strategy of the side may end at the state
abbrev pub MayEnd : EndRule → Side → Frame → State → Type 0
MayEnd at_win side f s = winner_of f s ≡ Some side
MayEnd at_win_or_life side f s = HasWonOrLives side f s
