-- When a solution can be written.
use Rattle.std.specs.Prelude.{IfSome}
use Rattle.tt_sgf.specs.declared.size.Size.{Size}
use Rattle.tt_proof.specs.Strategy.{IsTurnOnBoardOfSize}
use Rattle.tt_solve.specs.declared.solution.Solution.{Solution}
use Rattle.tt_solve.specs.declared.solution.Solution.TheVariants.{Settled, Unsettled}

-- its first turn, where it has one, lies on the board
abbrev pub IsFirstOnBoard : Size → Solution → Type 0
IsFirstOnBoard size (Settled side first certificate) = IfSome first (IsTurnOnBoardOfSize size)
IsFirstOnBoard size (Unsettled reason) = Unit {0}
