-- Which fault a run ended with.
use Rattle.std.specs.Prelude.{Bool, true, false, Ok, Err}
use Rattle.std.specs.declared.result.Result.{Result}
use Rattle.devices.specs.declared.fault.RunFault.{RunFault}
use Rattle.devices.specs.declared.fault.RunFault.TheVariants.{Input, Output, Memory}

abbrev pub is_input_fault : {A : Type 0} → Result A RunFault → Bool
is_input_fault (Ok x) = false
is_input_fault (Err Input) = true
is_input_fault (Err Output) = false
is_input_fault (Err Memory) = false

abbrev pub is_output_fault : {A : Type 0} → Result A RunFault → Bool
is_output_fault (Ok x) = false
is_output_fault (Err Input) = false
is_output_fault (Err Output) = true
is_output_fault (Err Memory) = false
