-- What the other whole lines of an output say is so.
use Rattle.std.specs.Prelude.{◌≡◌, ℕ, Bool, true, false, List, [], ◌∷◌, ◌++◌, All, Option, Ok, codes, decimal, drop}
use Rattle.std.specs.declared.result.Result.{Result}
use Rattle.tt_sgf.specs.Bytes.{newline, space}
use Rattle.tt_sgf.specs.Grammar.{GameTree, FirstTreeEndsAt, main_line}
use Rattle.tt_sgf.specs.Values.{trimmed}
use Rattle.tt_game.specs.declared.frame.Side.{Side}
use Rattle.tt_game.specs.declared.records.Record.{Record}
use Rattle.tt_game.specs.declared.turns.Turn.{Turn}
use Rattle.tt_game.specs.Game.{HasValue, IsLegal, value_won_by}
use Rattle.tt_game.specs.Line.{LineWithUndo, problem_after_turn}
use Rattle.tt_game.specs.Problems.{problem_of}
use Rattle.tt_game.specs.Records.{record_of}
use Rattle.tt_proof.specs.CertificateText.{IsCertificate}
use Rattle.tt_parts.specs.Outlines.{Outline, IsSharedCertificate, unfolded}
use Rattle.tt_parts.specs.SharedWins.{IsWinningSharedCertificate}
use Rattle.tt_proof.specs.Strategy.{Strategy}
use Rattle.tt_proof.specs.Wins.{Wins, WinsOrLives}
use Rattle.tt_search.specs.declared.limits.Limits.{Limits}
use Rattle.tt_search.specs.declared.limits.Reason.{Reason}
use Rattle.tt_solve.specs.declared.options.Options.{Options}
use Rattle.tt_text.specs.declared.outcome.TreeOutcome.TheVariants.{Scored}
use Rattle.tt_text.specs.Checking.{IsCheckText}
use Rattle.tt_text.specs.Headline.{IsNumberedLine, IsProblem, IsTree, lines_of}
use Rattle.tt_text.specs.Scoring.{Scores}
use Rattle.tt_solve.specs.Solutions.{IsUnsettledFor, IsValueOrReason, IsWinningCertificate}
use Rattle.tt_text.specs.Solving.{Solves, reason_word, turn_value_line}
use Rattle.tt_text.specs.Trees.{BeginsTreesText, outcome_line}

-- ---- `solve`

-- the line has no number in front
abbrev pub IsUnnumbered : List ℕ → Type 0
IsUnnumbered line = (k : ℕ) (words : List ℕ) → IsNumberedLine line k words → ⊥

-- where the words of line k are `unsettled` and a reason, tree k is a problem, and is unsettled for it
abbrev pub ReasonIsTrue : Limits → Option ℕ → List ℕ → ℕ → List ℕ → Type 0
ReasonIsTrue limits total input k words = (reason : Reason) → words ≡ codes "unsettled " ++ reason_word reason
    → (p : LineWithUndo) × IsProblem input k p × IsUnsettledFor p limits total reason

-- The words below a verdict are a legal turn and the value behind it, or why that isn't known with what is left of the total; or
-- they are a certificate that wins there, plain or with shared parts.
pub data SaysBelow (p : LineWithUndo) (limits : Limits) : List ℕ → Type 0 where
  turn_and_value : (t : Turn) (value : Result Side Reason) (words : List ℕ) (left : Option ℕ) → IsLegal p.frame p.state t
      → IsValueOrReason (problem_after_turn p t) limits left value → words ++ newline ∷ [] ≡ turn_value_line p.frame.size t value → SaysBelow p limits words
  certificate : (side : Side) (first : Option Turn) (bytes : List ℕ) → IsWinningCertificate p limits side first bytes → SaysBelow p limits bytes
  shared_certificate : (side : Side) (first : Option Turn) (bytes : List ℕ) → IsWinningSharedCertificate p.frame p.state side first limits.depth bytes
      → SaysBelow p limits bytes

-- tree k is a problem, and a line below line k says what is so there
abbrev pub LowerLineIsTrue : Limits → List ℕ → ℕ → List ℕ → Type 0
LowerLineIsTrue limits input k line = (p : LineWithUndo) × IsProblem input k p × SaysBelow p limits line

-- so it is with each numbered line, and with those below it
abbrev pub AreTrueSolveLines : Limits → Option ℕ → List ℕ → List (List ℕ) → Type 0
AreTrueSolveLines limits total input lines = (above below rest : List (List ℕ)) (line : List ℕ) (k : ℕ) (words : List ℕ)
    → lines ≡ above ++ (line ∷ (below ++ rest)) → IsNumberedLine line k words → All IsUnnumbered below
    → ReasonIsTrue limits total input k words × All (LowerLineIsTrue limits input k) below

-- whatever part of an answer to `solve` was written
abbrev pub SolveLinesAreTrue : Type 0
SolveLinesAreTrue = (options : Options) (input text written more : List ℕ) → BeginsTreesText (Solves options) input text → text ≡ written ++ more
    → AreTrueSolveLines options.limits options.total input (lines_of written)

-- ---- `score`

-- where the words of line k begin with `black`, tree k is a record, and they are its score
abbrev pub ScoreIsTrue : List ℕ → ℕ → List ℕ → Type 0
ScoreIsTrue input k words = (rest : List ℕ) → words ≡ codes "black " ++ rest
    → (t : GameTree) × (r : Record) × IsTree input k t × (record_of (main_line t) ≡ Ok r) × (decimal k ++ (space ∷ (words ++ newline ∷ [])) ≡ outcome_line k (Scored r))

-- so it is with each numbered line of whatever part of an answer to `score` was written
abbrev pub AreTrueScoreLines : List ℕ → List (List ℕ) → Type 0
AreTrueScoreLines input lines = (above below : List (List ℕ)) (line : List ℕ) (k : ℕ) (words : List ℕ) → lines ≡ above ++ (line ∷ below) → IsNumberedLine line k words
    → ScoreIsTrue input k words

abbrev pub ScoreLinesAreTrue : Type 0
ScoreLinesAreTrue = (input text written more : List ℕ) → BeginsTreesText Scores input text → text ≡ written ++ more → AreTrueScoreLines input (lines_of written)

-- ---- `check`

-- the bytes are a certificate that wins for the side at the problem; or, where parts may be shared, one whose tree wins there or ends at life
abbrev pub CertificateWins : Bool → LineWithUndo → Side → List ℕ → Type 0
CertificateWins false p side bytes = (u : Strategy) × IsCertificate p.frame.size bytes side u × Wins side p.frame u p.state
CertificateWins true p side bytes = (o : Outline) × IsSharedCertificate p.frame.size bytes side o × WinsOrLives side p.frame (unfolded [] o) p.state

-- where a line is `valid`, the first tree is a problem, what follows it is a certificate that wins there, and the problem has that value
abbrev pub AreTrueCheckLines : Bool → List ℕ → List (List ℕ) → Type 0
AreTrueCheckLines parts input lines = (above below : List (List ℕ)) → lines ≡ above ++ (codes "valid" ∷ below)
    → (count : ℕ) × (t : GameTree) × (p : LineWithUndo) × (side : Side) × FirstTreeEndsAt input count t × (problem_of (main_line t) ≡ Ok p)
    × CertificateWins parts p side (trimmed (drop count input)) × HasValue p.frame p.state (value_won_by side)

-- whatever part of an answer to `check` was written
abbrev pub CheckLinesAreTrue : Type 0
CheckLinesAreTrue = (parts : Bool) (input text written more : List ℕ) (status : ℕ) → IsCheckText parts input text status → text ≡ written ++ more
    → AreTrueCheckLines parts input (lines_of written)
