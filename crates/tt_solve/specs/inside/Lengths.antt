-- How long the certificate of a solution is.
use Rattle.std.specs.Prelude.{ℕ, ◌≤◌, Some, None, length}
use Rattle.tt_solve.specs.declared.solution.Solution.{Solution}
use Rattle.tt_solve.specs.declared.solution.Solution.TheVariants.{Settled, Unsettled}

-- its certificate, where it has one, takes at most so many bytes
abbrev pub IsCertificateWithin : ℕ → Solution → Type 0
IsCertificateWithin most (Settled side first (Some bytes)) = length bytes ≤ most
IsCertificateWithin most (Settled side first None) = Unit {0}
IsCertificateWithin most (Unsettled reason) = Unit {0}
