use Rattle.std.proofs.Common.{sym, subst}
use Rattle.tt_proof.specs.EndRules.{at_win}
use Rattle.tt_proof.specs.ProofClaim.{ProofClaim, IsChild}
use Rattle.tt_proof.proofs.ProvenLemmas.{won_pick}
use Rattle.tt_proof.proofs.proven.Proof.pick.Goals as goal

pub invariant_of-result : goal.invariant_of-result
invariant_of-result c =
    let f = c.args.line.now.frame in
    let s = c.args.line.now.state in
    let kid = c.into_life_proof-child.result in
    let made = c.in_ok-life_proof.ensures in
    let same = c.into_life_proof-child.ensures.same in
    rw (made.2, made.1)
    (won_pick at_win f _ s _ c.args.t kid made.0.0 made.0.1 c.requires.legal
    (subst (λ (p : ProofClaim). IsChild f s s.to_move c.args.t p) (sym same) c.requires.child) (rw same c.into_life_proof-child.ensures.wins))
