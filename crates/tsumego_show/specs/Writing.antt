-- What a run writes.
use Rattle.std.specs.Prelude.{◌≡◌, ◌⊎◌, ℕ, List, [], Option}
use Rattle.std.specs.declared.result.Result.{Result}
use Rattle.devices.specs.declared.fault.RunFault.{RunFault}
use Rattle.devices.specs.Writing.{RunWrites}
use Rattle.tsumego_show.specs.declared.mode.Mode.{Mode}
use Rattle.tsumego_show.specs.declared.mode.Mode.TheVariants.{Picture, Diagram, Marks, Variations}
use Rattle.tsumego_show.specs.Shown.{IsTextWithStatus}

-- game trees are written, which are read back
abbrev pub WritesTrees : Mode → Type 0
WritesTrees Picture = ⊥
WritesTrees Diagram = ⊥
WritesTrees (Variations depth) = Unit {0}
WritesTrees (Marks wanted) = Unit {0}

-- The text for the input, with its status, or a beginning of it; where memory was refused nothing, and nothing with status 2 where a game
-- tree would read as another problem.
abbrev pub WritesShown : Mode → List ℕ → Result ℕ RunFault → Option (List ℕ) → Option (List ℕ) → Type 0
WritesShown mode input = RunWrites (λ text status. IsTextWithStatus mode input text status ⊎ (WritesTrees mode × (text ≡ []) × (status ≡ 2)))
    (λ text. (status : ℕ) × IsTextWithStatus mode input text status) (λ text. text ≡ [])
