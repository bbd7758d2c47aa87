-- What a run of a command writes.
use Rattle.std.specs.Prelude.{◌≡◌, ◌⊎◌, ℕ, List, [], Option}
use Rattle.std.specs.declared.result.Result.{Result}
use Rattle.devices.specs.declared.fault.RunFault.{RunFault}
use Rattle.devices.specs.Writing.{RunWrites}
use Rattle.tsumego.specs.declared.request.Command.{Command}
use Rattle.tsumego.specs.declared.task.InputTask.{InputTask}
use Rattle.tsumego.specs.declared.task.InputTask.TheVariants.{Trees, Check}
use Rattle.tt_text.specs.Checking.{IsCheckText}
use Rattle.tsumego.specs.Tasks.{IsTaskOf, MakesOutcome}
use Rattle.tt_text.specs.Trees.{BeginsTreesText, EarlierTreesText, IsTreesText}

-- an answer to the input, or a beginning of one; and where memory was refused the whole lines on earlier trees alone
abbrev pub WritesAnswer : InputTask → List ℕ → Result ℕ RunFault → Option (List ℕ) → Option (List ℕ) → Type 0
WritesAnswer (Trees task) input = RunWrites (IsTreesText (MakesOutcome task) input) (BeginsTreesText (MakesOutcome task) input)
    (EarlierTreesText (MakesOutcome task) input)
WritesAnswer (Check parts) input =
    RunWrites (IsCheckText parts input) (λ text. (text ≡ []) ⊎ ((status : ℕ) × IsCheckText parts input text status)) (λ text. text ≡ [])

-- what the command writes for the input
abbrev pub CommandWrites : Command → List ℕ → Result ℕ RunFault → Option (List ℕ) → Option (List ℕ) → Type 0
CommandWrites c input result before behind =
    (task : InputTask) × IsTaskOf c task × WritesAnswer task input result before behind
