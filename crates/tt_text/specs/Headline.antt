-- What each whole line of an output says is so. It holds of a beginning of an output too.
use Rattle.std.specs.Prelude.{◌≡◌, ℕ, zero, suc, List, [], ◌∷◌, ◌++◌, Option, Ok, drop, if◌then◌else◌, ◌==◌}
use Rattle.std.specs.Str.Parse.{IsNumeral, digits_value}
use Rattle.tt_sgf.specs.Bytes.{newline, space}
use Rattle.tt_sgf.specs.Grammar.{GameTree, FirstTreeEndsAt, main_line}
use Rattle.tt_game.specs.declared.frame.Side.{Side}
use Rattle.tt_game.specs.declared.turns.Turn.{Turn}
use Rattle.tt_game.specs.Game.{HasValue, value_won_by}
use Rattle.tt_game.specs.Line.{LineWithUndo}
use Rattle.tt_game.specs.Problems.{problem_of}
use Rattle.tt_game.specs.Sides.{verdict_word}
use Rattle.tt_solve.specs.declared.options.Options.{Options}
use Rattle.tt_solve.specs.Solutions.{IsFirstTurnOfWinner}
use Rattle.tt_text.specs.Solving.{Solves, first_turn_text}
use Rattle.tt_text.specs.Trees.{BeginsTreesText}

-- the lines that newlines end, the first of which begins with these bytes; what stands behind the last newline is no line
abbrev pub lines_after : List ℕ → List ℕ → List (List ℕ)
lines_after line [] = []
lines_after line (b ∷ bs) = if b == newline then line ∷ lines_after [] bs else lines_after (line ++ b ∷ []) bs

abbrev pub lines_of : List ℕ → List (List ℕ)
lines_of text = lines_after [] text

-- the line is the number k, a blank, and the words
abbrev pub IsNumberedLine : List ℕ → ℕ → List ℕ → Type 0
IsNumberedLine line k words = (digits : List ℕ) × IsNumeral 10 digits × (k ≡ digits_value 10 digits) × (line ≡ digits ++ (space ∷ words))

-- tree number k of the input, from 1 on
abbrev pub IsTree : List ℕ → ℕ → GameTree → Type 0
IsTree input zero t = ⊥
IsTree input (suc zero) t = (count : ℕ) × FirstTreeEndsAt input count t
IsTree input (suc (suc k)) t = (count : ℕ) × (first : GameTree) × FirstTreeEndsAt input count first × IsTree (drop count input) (suc k) t

-- tree number k of the input is the problem
abbrev pub IsProblem : List ℕ → ℕ → LineWithUndo → Type 0
IsProblem input k p = (t : GameTree) × IsTree input k t × (problem_of (main_line t) ≡ Ok p)

-- where the words of line k begin with `killed` or `lives`, tree k is a problem with that value; a turn behind them keeps it, and
-- it is there exactly where the winner is to move
abbrev pub VerdictIsTrue : List ℕ → ℕ → List ℕ → Type 0
VerdictIsTrue input k words = (side : Side) (rest : List ℕ) → words ≡ verdict_word side ++ rest
    → (p : LineWithUndo) × IsProblem input k p × HasValue p.frame p.state (value_won_by side)
    × (first : Option Turn) × IsFirstTurnOfWinner p side first × (rest ≡ first_turn_text p.frame.size first)

-- so it is with each of the lines
abbrev pub VerdictsAreTrue : List ℕ → List (List ℕ) → Type 0
VerdictsAreTrue input lines = (above below : List (List ℕ)) (line : List ℕ) (k : ℕ) (words : List ℕ) → lines ≡ above ++ (line ∷ below)
    → IsNumberedLine line k words → VerdictIsTrue input k words

-- whatever part of an answer to `solve` was written
abbrev pub VerdictLinesAreTrue : Type 0
VerdictLinesAreTrue = (options : Options) (input text written more : List ℕ) → BeginsTreesText (Solves options) input text → text ≡ written ++ more
    → VerdictsAreTrue input (lines_of written)
