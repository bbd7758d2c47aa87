-- Laws of verdicts.
use Rattle.std.specs.Prelude.{◌≡◌, List, ℕ, ◌∷◌, ◌++◌, Option}
use Rattle.tt_sgf.specs.Bytes.{newline}
use Rattle.tt_game.specs.declared.frame.Side.{Side}
use Rattle.tt_game.specs.declared.turns.Turn.{Turn}
use Rattle.tt_game.specs.Game.{HasValue, value_won_by}
use Rattle.tt_game.specs.Line.{LineWithUndo}
use Rattle.tt_game.specs.Sides.{verdict_word}
use Rattle.tt_search.specs.declared.limits.Limits.{Limits}
use Rattle.tt_solve.specs.declared.options.CertKind.{CertKind}
use Rattle.tt_solve.specs.Solutions.{IsFirstTurnOfWinner}
use Rattle.tt_text.specs.Solving.{IsVerdict, first_turn_text}

-- a verdict that begins with a side's word names the problem's value, and the turn behind the word, or its absence, is so
abbrev pub VerdictsAreValues : Type 0
VerdictsAreValues = (p : LineWithUndo) (limits : Limits) (total : Option ℕ) (cert : CertKind) (side : Side) (rest : List ℕ) → IsVerdict p limits total cert (verdict_word side ++ rest)
    → HasValue p.frame p.state (value_won_by side)
    × ((first : Option Turn) (lines : List ℕ) → rest ≡ first_turn_text p.frame.size first ++ newline ∷ lines → IsFirstTurnOfWinner p side first)
