-- What stands written when a call ends: how writing one text ends, and how a whole run does.
use Rattle.std.specs.Prelude.{ℕ, List, Option, None, Some, Ok, Err, take}
use Rattle.std.specs.declared.result.Result.{Result}
use Rattle.std.specs.Io.KnownBytes.{Appends, Keeps}
use Rattle.devices.specs.declared.fault.RunFault.{RunFault}
use Rattle.devices.specs.declared.fault.RunFault.TheVariants.{Input, Output, Memory}

-- a fault after a part of the text was written, or before any of it was
abbrev pub WritesUntilFault : List ℕ → RunFault → Option (List ℕ) → Option (List ℕ) → Type 0
WritesUntilFault text Input before behind = ⊥
WritesUntilFault text Output before behind = (n : ℕ) × Appends before behind (take n text)
WritesUntilFault text Memory before behind = Keeps before behind

-- the whole text was written, or a fault came
abbrev pub WritesText : {A : Type 0} → List ℕ → Result A RunFault → Option (List ℕ) → Option (List ℕ) → Type 0
WritesText text (Ok x) before behind = Appends before behind text
WritesText text (Err e) before behind = WritesUntilFault text e before behind

-- What a run writes behind what was there: a whole answer with this status; after a fault of input nothing; after a fault of
-- output a beginning of an answer; and where memory was refused an earlier part of one.
abbrev pub RunWrites : (List ℕ → ℕ → Type 0) → (List ℕ → Type 0) → (List ℕ → Type 0) → Result ℕ RunFault → Option (List ℕ)
    → Option (List ℕ) → Type 0
RunWrites Whole Begun Earlier (Ok status) before behind = (text : List ℕ) × Whole text status × Appends before behind text
RunWrites Whole Begun Earlier (Err Input) before behind = Keeps before behind
RunWrites Whole Begun Earlier (Err Output) before behind = (text : List ℕ) × (n : ℕ) × Begun text × Appends before behind (take n text)
RunWrites Whole Begun Earlier (Err Memory) before behind = (text : List ℕ) × Earlier text × Appends before behind text

-- the fact holds of all that a reader had to give, or of some input where the reader doesn't tell
abbrev pub HoldsForInput : Option (List ℕ) → (List ℕ → Type 0) → Type 0
HoldsForInput None P = (input : List ℕ) × P input
HoldsForInput (Some given) P = P given
