use Rattle.std.proofs.Common.{None}
use Rattle.tt_solve.specs.declared.options.CertKind.TheVariants.{Unasked}
use Rattle.tt_solve.proofs.ProofSolutions.{decided}
use Rattle.tt_solve.proofs.certificate_kinds.bare_solution.Goals as goal

pub returns-clause-decided : goal.returns-clause-decided
returns-clause-decided c = λ line limits nobody formed at.
    decided line formed limits Unasked c.args.proof.now c.side-side.result c.first-first.result None nobody at c.side-side.ensures.wins c.side-side.ensures.side
    c.first-first.ensures tt
