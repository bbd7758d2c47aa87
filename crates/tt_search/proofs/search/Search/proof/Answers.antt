use Rattle.std.proofs.Common.{◌≤◌, IfOk, sym, subst}
use Rattle.tt_search.specs.inside.Within.{StaysWithin}
use Rattle.tt_search.specs.SearchState.{SearchState}
use Rattle.tt_search.specs.RunEnds.{IsProofOf}
use Rattle.tt_search.proofs.Ends.{is_proof}
use Rattle.tt_search.proofs.Steps.{offerable}
use Rattle.tt_search.proofs.search.Search.proof.Goals as goal

pub proof-requires : goal.proof-requires
proof-requires c =
    let h = offerable c.self.inside.walk.line c.self.inside.walk.room c.self.inside.root (subst (λ d. d ≤ 512) (sym c.self.invariant.room) c.self.inside.limits.depth_in)
    (c.self.invariant.partial, c.self.invariant.stays) in
    record { settled = c.in-Some.ensures; partial = h.0; stays = h.1 }

pub returns-clause-exact : goal.returns-clause-exact
returns-clause-exact c =
    let search : SearchState = record { line = c.self.inside.walk.line; limits = c.self.inside.limits; tree = c.self.inside.root } in
    let within = subst (λ d. StaysWithin c.self.inside.walk.line.frame.size d c.self.inside.root) c.self.invariant.room c.self.invariant.stays in
    subst (λ s. IfOk c.proof.result (λ p. IsProofOf s p)) c.self.view_is
    (is_proof search c.in-Some.side c.proof.result c.in-Some.ensures within c.proof.ensures.stands c.proof.ensures.side c.proof.ensures.tree)
