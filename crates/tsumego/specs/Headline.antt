-- Each verdict that `solve` wrote is so: for every input, every option, and however the run ended.
use Rattle.std.specs.Prelude.{ℕ, List, ◌++◌, Some}
use Rattle.std.specs.declared.result.Result.{Result}
use Rattle.devices.specs.declared.fault.RunFault.{RunFault}
use Rattle.tt_text.specs.Headline.{VerdictsAreTrue, lines_of}
use Rattle.tsumego.specs.declared.request.Command.{Command}
use Rattle.tsumego.specs.declared.request.Command.TheVariants.{Solve}
use Rattle.tsumego.specs.Writing.{CommandWrites}

-- of the lines of `solve`
abbrev pub AreTrueVerdicts : Command → List ℕ → List (List ℕ) → Type 0
AreTrueVerdicts (Solve _ _ _ _ _ _ _ _) input lines = VerdictsAreTrue input lines
AreTrueVerdicts _ input lines = Unit {0}

-- of what a run wrote behind what stood there before
abbrev pub VerdictsOfRunsAreTrue : Type 0
VerdictsOfRunsAreTrue = (c : Command) (input : List ℕ) (result : Result ℕ RunFault) (before written : List ℕ)
    → CommandWrites c input result (Some before) (Some (before ++ written)) → AreTrueVerdicts c input (lines_of written)
