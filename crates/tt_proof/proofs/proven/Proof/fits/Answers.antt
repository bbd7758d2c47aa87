use Rattle.std.proofs.Common.{subst}
use Rattle.tt_proof.specs.EndRules.{at_win}
use Rattle.tt_proof.specs.Footprints.{FitsAt}
use Rattle.tt_proof.specs.ProofClaim.{ProofClaim, IsWinningTree}
use Rattle.tt_proof.proofs.FittingLemmas.{won_where_fits}
use Rattle.tt_proof.proofs.proven.Proof.fits.Goals as goal

pub returns-clause-wins : goal.returns-clause-wins
returns-clause-wins c =
    let line = c.args.line.now in
    let won = subst (λ (p : ProofClaim). IsWinningTree p.side p.frame p.state p.tree) c.self.view_is c.self.invariant in
    λ e. won_where_fits at_win _ line.frame line.state won (subst (λ (p : ProofClaim). FitsAt p line.frame line.state) c.self.view_is (c.fits.ensures.0 e))
