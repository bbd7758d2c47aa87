use Rattle.std.proofs.Common.{Some, rules}
use Rattle.tt_proof.specs.ProofClaim.{first_turn_of}
use Rattle.tt_parts.specs.SharedWins.{IsWinningSharedCertificate}
use Rattle.tt_solve.specs.declared.options.CertKind.TheVariants.{Shared}
use Rattle.tt_solve.proofs.ProofCertificates.{shared_asked}
use Rattle.tt_solve.proofs.ProofSolutions.{decided}
use Rattle.tt_solve.proofs.certificate_kinds.shared_solution.Goals as goal

pub returns-clause-decided : goal.returns-clause-decided
returns-clause-decided c =
    let line = c.args.line.now in
    let limits = c.args.limits.now in
    let p = c.args.proof.now in
    let text = c.in-Some.text.items in
    let wins : IsWinningSharedCertificate line.frame line.state p.side (first_turn_of p.tree) c.depth-depth.result text =
    search (rules, c.in-Some.is, c.in_ok-text.ensures.wins, c.side-side.ensures.side, c.tree-tree.ensures.tree) in
    let asked = shared_asked line limits p.side (first_turn_of p.tree) c.depth-depth.result text c.from_vec.result c.depth-depth.ensures.depth wins c.from_vec.ensures in
    decided line c.requires.state limits Shared p c.side-side.result c.first-first.result (Some c.from_vec.result) c.requires.open c.requires.stands
    c.side-side.ensures.wins c.side-side.ensures.side c.first-first.ensures asked
