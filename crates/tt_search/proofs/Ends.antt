-- The proof of a settled search.
use Rattle.std.proofs.Common.{◌≡◌, ◌≤◌, Ok, Err, IfOk, sym, subst}
use Rattle.std.specs.declared.result.Result.{Result}
use Rattle.tt_game.specs.declared.frame.Side.{Side}
use Rattle.tt_proof.specs.Strategy.{depth}
use Rattle.tt_proof.specs.ProofClaim.{ProofClaim, StandsAt}
use Rattle.tt_search.specs.Numbers.{number}
use Rattle.tt_search.specs.Settled.{strategy_for}
use Rattle.tt_search.specs.inside.Within.{StaysWithin}
use Rattle.tt_search.specs.SearchState.{SearchState}
use Rattle.tt_search.specs.RunEnds.{IsProofOf}
use Rattle.tt_search.proofs.Strategies.{low}

-- a proof at the search's line, for the side it is settled for and with the tree's strategy, is the search's
pub is_proof : {E : Type 0} (search : SearchState) (side : Side) (r : Result ProofClaim E) → number side search.tree ≡ 0
    → StaysWithin search.line.frame.size search.limits.depth search.tree → IfOk r (λ p. StandsAt p search.line.frame search.line.state) → IfOk r (λ p. p.side ≡ side)
    → IfOk r (λ p. p.tree ≡ strategy_for side search.tree) → IfOk r (λ p. IsProofOf search p)
is_proof search side (Err e) z h stands of tree = tt
is_proof search side (Ok p) z h stands of tree = record {
  stands = stands;
  shallow = subst (λ u. depth u ≤ search.limits.depth) (sym tree) (low side search.line.frame.size search.limits.depth search.tree h);
  settled = subst (λ s. number s search.tree ≡ 0) (sym of) z;
  strategy = subst (λ s. p.tree ≡ strategy_for s search.tree) (sym of) tree;
}
