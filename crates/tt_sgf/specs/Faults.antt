-- The numbers of refusals.
use Rattle.std.specs.Prelude.{ℕ}
use Rattle.tt_sgf.specs.declared.faults.SgfFault.{SgfFault}
use Rattle.tt_sgf.specs.declared.faults.SgfFault.TheVariants.{Syntax, TooLong, NoMemory}

-- each fault's number
abbrev pub code_of : SgfFault → ℕ
code_of Syntax = 1
code_of TooLong = 2
code_of NoMemory = 40
