-- What `solve` says of a problem: killed or lives with the first turn and a certificate, or unsettled; and of each legal turn.
use Rattle.std.specs.Prelude.{◌≡◌, ℕ, List, [], ◌∷◌, ◌++◌, Option, Some, None, Ok, Err, codes}
use Rattle.std.specs.declared.result.Result.{Result}
use Rattle.std.specs.List.{flat_map}
use Rattle.tt_sgf.specs.Bytes.{newline, space}
use Rattle.tt_sgf.specs.declared.nodes.Node.{Node}
use Rattle.tt_sgf.specs.declared.size.Size.{Size}
use Rattle.tt_game.specs.declared.faults.GameFault.{GameFault}
use Rattle.tt_game.specs.declared.frame.Side.{Side}
use Rattle.tt_game.specs.declared.turns.Turn.{Turn}
use Rattle.tt_game.specs.Faults.{code_of}
use Rattle.tt_game.specs.Line.{LineWithUndo}
use Rattle.tt_game.specs.Problems.{problem_of}
use Rattle.tt_game.specs.Sides.{verdict_word}
use Rattle.tt_proof.specs.CertificateText.{readable_turn_text}
use Rattle.tt_search.specs.declared.limits.Limits.{Limits}
use Rattle.tt_search.specs.declared.limits.Reason.{Reason}
use Rattle.tt_search.specs.declared.limits.Reason.TheVariants.{Budget, Depth, Total, Memory}
use Rattle.tt_solve.specs.declared.options.CertKind.{CertKind}
use Rattle.tt_solve.specs.declared.options.Options.{Options}
use Rattle.tt_solve.specs.declared.solution.Solution.{Solution}
use Rattle.tt_solve.specs.declared.solution.Solution.TheVariants.{Settled, Unsettled}
use Rattle.tt_solve.specs.declared.solution.Solved.{Solved}
use Rattle.tt_solve.specs.Solutions.{IsSolution, IsSolved, value_of}
use Rattle.tt_text.specs.declared.outcome.TreeOutcome.{TreeOutcome}
use Rattle.tt_text.specs.declared.outcome.TreeOutcome.TheVariants.{Answered, Refused}

-- ---- texts; a newline ends each line

-- a blank and the first turn, where there is one
abbrev pub first_turn_text : Size → Option Turn → List ℕ
first_turn_text size None = []
first_turn_text size (Some t) = space ∷ readable_turn_text size t

-- the line of a decided problem
abbrev pub decided_line : Size → Side → Option Turn → List ℕ
decided_line size side first = verdict_word side ++ (first_turn_text size first ++ newline ∷ [])

abbrev pub reason_word : Reason → List ℕ
reason_word Budget = codes "budget"
reason_word Depth = codes "depth"
reason_word Total = codes "total"
reason_word Memory = codes "memory"

-- the line of an unsettled problem
abbrev pub unsettled_line : Reason → List ℕ
unsettled_line reason = codes "unsettled " ++ (reason_word reason ++ newline ∷ [])

-- what is said behind a turn: the side that wins, or why that isn't known
abbrev pub value_text : Result Side Reason → List ℕ
value_text (Ok side) = verdict_word side ++ newline ∷ []
value_text (Err reason) = unsettled_line reason

-- the line on a turn, behind two blanks
abbrev pub turn_value_line : Size → Turn → Result Side Reason → List ℕ
turn_value_line size t value = space ∷ space ∷ (readable_turn_text size t ++ space ∷ value_text value)

-- a certificate on a line of its own, where there is one
abbrev pub certificate_line : Option (List ℕ) → List ℕ
certificate_line None = []
certificate_line (Some bytes) = bytes ++ newline ∷ []

-- the verdict that a solution is, with its certificate below
abbrev pub verdict_text : Size → Solution → List ℕ
verdict_text size (Settled side first certificate) = decided_line size side first ++ certificate_line certificate
verdict_text size (Unsettled reason) = unsettled_line reason

-- a line for each of the turns
abbrev pub turn_value_lines : Size → List (Turn × Result Side Reason) → List ℕ
turn_value_lines size values = flat_map (λ (e : Turn × Result Side Reason). turn_value_line size e.0 e.1) values

-- the verdict, and the lines on turns
abbrev pub answer_text : Size → Solved → List ℕ
answer_text size s = verdict_text size s.solution ++ turn_value_lines size s.turn_values.items

-- ---- what they say

-- the text is the verdict that a solution of the problem is
abbrev pub IsVerdict : LineWithUndo → Limits → Option ℕ → CertKind → List ℕ → Type 0
IsVerdict p limits total cert text = (s : Solution) × IsSolution p limits total cert s × (text ≡ verdict_text p.frame.size s)

-- the value and the text of the solved problem, or the number of its refusal
abbrev pub SolvesProblemAs : Options → Result LineWithUndo GameFault → TreeOutcome → Type 0
SolvesProblemAs options (Ok p) o = (s : Solved) × (o ≡ Answered (value_of s.solution) (answer_text p.frame.size s)) × IsSolved options p s
SolvesProblemAs options (Err e) o = o ≡ Refused (code_of e)

-- what `solve` makes of a main line; which engine found it, and how many workers it had, has no part in it
abbrev pub Solves : Options → List Node → TreeOutcome → Type 0
Solves options nodes o = SolvesProblemAs options (problem_of nodes) o
