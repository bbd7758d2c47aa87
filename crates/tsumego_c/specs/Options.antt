-- What a caller's numbers say.
use Rattle.std.specs.Prelude.{◌≡◌, ◌≤◌, ℕ, zero, suc, false, List, Option, Some, None}
use Rattle.tt_dfpn.specs.declared.attempts.TheConstants.{MOST_POSITIONS}
use Rattle.tt_proof.specs.declared.tree.TheConstants.{MOST_DEPTH}
use Rattle.tt_search.specs.declared.limits.TheConstants.{MOST_EXPANDED}
use Rattle.tt_solve.specs.declared.options.CertKind.{CertKind}
use Rattle.tt_solve.specs.declared.options.CertKind.TheVariants.{Plain, Shared, Unasked}
use Rattle.tt_solve.specs.declared.options.Options.{Options}
use Rattle.tt_solve.specs.declared.options.TheConstants.{MOST_TOTAL}
use Rattle.tt_text.specs.Solving.{Solves}
use Rattle.tsumego_c.specs.declared.call_options.CallOptions.{CallOptions}
use Rattle.tsumego_c.specs.declared.call_options.TheConstants.{SHARED_CERT}
use Rattle.tsumego_c.specs.First.{IsFirstTreeText}

-- 0 asks for nothing
abbrev pub unless_zero : ℕ → Option ℕ
unless_zero zero = None
unless_zero (suc n) = Some (suc n)

-- 0 asks for no certificate, 1 for one, 2 for one with shared parts
abbrev pub cert_kind_numbered : ℕ → CertKind
cert_kind_numbered zero = Unasked
cert_kind_numbered (suc zero) = Plain
cert_kind_numbered (suc (suc n)) = Shared

-- the numbers lie in the ranges of the command line, and there are three kinds of certificate
abbrev pub AreInRange : CallOptions → Type 0
AreInRange o = ((1 ≤ o.budget) × (o.budget ≤ MOST_EXPANDED) × (1 ≤ o.depth) × (o.depth ≤ MOST_DEPTH))
    × (o.total ≤ MOST_TOTAL) × (o.dfpn ≤ MOST_POSITIONS) × (o.cert ≤ SHARED_CERT)

-- the numbers mean these options; of turns nothing is asked
abbrev pub MeansOptions : CallOptions → Options → Type 0
MeansOptions o options = ((options.limits.budget ≡ o.budget) × (options.limits.depth ≡ o.depth)) × (options.total ≡ unless_zero o.total)
    × (options.dfpn ≡ unless_zero o.dfpn) × (options.cert ≡ cert_kind_numbered o.cert) × (options.turns ≡ false)

-- the text is the line of the verdict on the problem that the first tree is, or of its refusal
abbrev pub IsSolveText : CallOptions → List ℕ → List ℕ → ℕ → Type 0
IsSolveText o input text status = (options : Options) × MeansOptions o options × IsFirstTreeText (Solves options) input text status
