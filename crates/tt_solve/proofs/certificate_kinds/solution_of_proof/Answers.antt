use Rattle.tt_solve.proofs.ProofSolutions.{decided_at_win}
use Rattle.tt_solve.proofs.certificate_kinds.solution_of_proof.Goals as goal

pub returns : goal.returns
returns c =
    decided_at_win c.args.line.now c.requires.state c.args.options.limits c.args.options.cert c.args.proof.now c.side-side.result c.first-first.result _ c.requires.open
    c.requires.stands c.side-side.ensures.wins c.side-side.ensures.side c.first-first.ensures c.in_ok-certificate.ensures
