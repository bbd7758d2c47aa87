-- How writing one line ends. Only functions below `run` cite it.
use Rattle.std.specs.Prelude.{◌≡◌, ℕ, Bool, List, Option, Ok, Err, take}
use Rattle.std.specs.declared.result.Result.{Result}
use Rattle.std.specs.Io.KnownBytes.{Appends, Keeps}
use Rattle.tt_sgf.specs.declared.nodes.Node.{Node}
use Rattle.devices.specs.declared.fault.RunFault.{RunFault}
use Rattle.devices.specs.declared.fault.RunFault.TheVariants.{Input, Output, Memory}
use Rattle.tt_text.specs.declared.outcome.TreeOutcome.{TreeOutcome}
use Rattle.tt_text.specs.Trees.{is_refused, outcome_line}

-- the line on an outcome of tree number k was written, and says whether it is a refusal; or a fault came
abbrev pub WritesOutcome : (List Node → TreeOutcome → Type 0) → ℕ → List Node → Result Bool RunFault → Option (List ℕ) → Option (List ℕ) → Type 0
WritesOutcome allowed k nodes (Ok refused) before behind =
    (o : TreeOutcome) × allowed nodes o × (refused ≡ is_refused o) × Appends before behind (outcome_line k o)
WritesOutcome allowed k nodes (Err Input) before behind = ⊥
WritesOutcome allowed k nodes (Err Output) before behind =
    (o : TreeOutcome) × (n : ℕ) × allowed nodes o × Appends before behind (take n (outcome_line k o))
WritesOutcome allowed k nodes (Err Memory) before behind = Keeps before behind
