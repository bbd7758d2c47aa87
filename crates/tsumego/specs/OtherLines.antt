-- Each other line that a run wrote is so too: for every input, every option, and however the run ended.
use Rattle.std.specs.Prelude.{ℕ, true, false, List, ◌++◌, Some}
use Rattle.std.specs.declared.result.Result.{Result}
use Rattle.devices.specs.declared.fault.RunFault.{RunFault}
use Rattle.tt_text.specs.Headline.{lines_of}
use Rattle.tt_text.specs.OtherLines.{AreTrueCheckLines, AreTrueScoreLines, AreTrueSolveLines}
use Rattle.tsumego.specs.declared.request.Command.{Command}
use Rattle.tsumego.specs.declared.request.Command.TheVariants.{Score, Check, CheckParts, Solve}
use Rattle.tsumego.specs.Writing.{CommandWrites}

-- of the lines of each command
abbrev pub AreTrueLines : Command → List ℕ → List (List ℕ) → Type 0
AreTrueLines (Solve limits _ _ total _ _ _ _) input lines = AreTrueSolveLines limits total input lines
AreTrueLines Score input lines = AreTrueScoreLines input lines
AreTrueLines Check input lines = AreTrueCheckLines false input lines
AreTrueLines CheckParts input lines = AreTrueCheckLines true input lines

-- of what a run wrote behind what stood there before
abbrev pub LinesOfRunsAreTrue : Type 0
LinesOfRunsAreTrue = (c : Command) (input : List ℕ) (result : Result ℕ RunFault) (before written : List ℕ)
    → CommandWrites c input result (Some before) (Some (before ++ written)) → AreTrueLines c input (lines_of written)
