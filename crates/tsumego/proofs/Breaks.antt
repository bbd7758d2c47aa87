-- Lemmas on the line of a finding that is written in part.
use Rattle.std.proofs.Common.{◌≡◌, ℕ, Bool, List, [], inr, Option, Err, refl}
use Rattle.std.proofs.KnownBytes.{Appends-kept, Appends-nil}
use Rattle.devices.specs.declared.fault.RunFault.{RunFault}
use Rattle.devices.specs.declared.fault.RunFault.TheVariants.{Input, Output, Memory}
use Rattle.devices.specs.Writing.{WritesUntilFault}
use Rattle.tt_text.specs.declared.checking.CheckOutcome.{CheckOutcome}
use Rattle.tt_text.specs.Checking.{Finds, check_line, check_status}
use Rattle.tsumego.specs.declared.task.InputTask.TheVariants.{Check}
use Rattle.tsumego.specs.Writing.{WritesAnswer}

-- the line on what is found was written in part, or not at all
pub check_breaks : (parts : Bool) (input bytes : List ℕ) (o : CheckOutcome) (e : RunFault) (a b : Option (List ℕ)) → Finds parts input o → bytes ≡ check_line o → WritesUntilFault bytes e a b
    → WritesAnswer (Check parts) input (Err e) a b
check_breaks parts input bytes o Input a b h is w = absurd w
check_breaks parts input bytes o Output a b h is w =
    (bytes, w.0, inr (check_status o, record { finding = o; finds = h; line = is; status_is = refl }), w.1)
check_breaks parts input bytes o Memory a b h is w = ([], refl, Appends-kept a a b [] (Appends-nil a) w)
