-- How a run ends.
use Rattle.std.specs.Prelude.{◌≡◌, ◌≤◌, ◌+◌, true, Some, None}
use Rattle.tt_proof.specs.Strategy.{depth}
use Rattle.tt_proof.specs.ProofClaim.{ProofClaim, StandsAt}
use Rattle.tt_search.specs.Numbers.{number, count}
use Rattle.tt_search.specs.Grants.{GrantTally}
use Rattle.tt_search.specs.Growing.{IsGrownFrom}
use Rattle.tt_search.specs.Settled.{strategy_for}
use Rattle.tt_search.specs.SearchState.{SearchState, HasSameLineAndLimits, IsStuckFor}
use Rattle.tt_search.specs.declared.limits.Reason.TheVariants.{Budget, Depth, Total, Memory}
use Rattle.tt_search.specs.declared.search.End.{End}
use Rattle.tt_search.specs.declared.search.End.TheVariants.{Settled, Stuck}

-- a search is on the same line under the same limits, and is reached by growth
pub record HasRunTo (start search : SearchState) : Type 0 where
  pub problem : HasSameLineAndLimits start search
  pub grown : IsGrownFrom start.limits start.line.frame start.line.state start.tree search.tree

-- the proof stands at the search's line, within its limit on depth, and its strategy is that of the search's tree
pub record IsProofOf (search : SearchState) (p : ProofClaim) : Type 0 where
  pub stands : StandsAt p search.line.frame search.line.state
  pub shallow : depth p.tree ≤ search.limits.depth
  pub settled : number p.side search.tree ≡ 0
  pub strategy : p.tree ≡ strategy_for p.side search.tree

-- what each end of a run says: a proof of a search that is reached, or a search that is reached and stuck; a run that
-- is stuck holds its search
abbrev pub IsEndOf : SearchState → End → Type 0
IsEndOf start (Settled proof) = (search : SearchState) × HasRunTo start search × IsProofOf search proof
IsEndOf start (Stuck reason (Some search)) = HasRunTo start search × IsStuckFor reason search
IsEndOf start (Stuck reason None) = ⊥

-- from one search to another one, as many expansions were granted as the tree's count rose by
abbrev pub HasGrantPerExpansion : SearchState → GrantTally → SearchState → GrantTally → Type 0
HasGrantPerExpansion start old search new = new.granted + count start.tree ≡ old.granted + count search.tree

-- what a run spent, by its end: the grants are the expansions of the search that it holds, or of the one whose proof it
-- answers; one was refused where it is stuck for the total, and elsewhere none was in the run
abbrev pub IsTallyAfterRun : SearchState → GrantTally → End → GrantTally → Type 0
IsTallyAfterRun start old (Settled proof) new =
    (search : SearchState) × HasRunTo start search × IsProofOf search proof × HasGrantPerExpansion start old search new × (new.refused ≡ old.refused)
IsTallyAfterRun start old (Stuck Budget (Some search)) new = HasGrantPerExpansion start old search new × (new.refused ≡ old.refused)
IsTallyAfterRun start old (Stuck Depth (Some search)) new = HasGrantPerExpansion start old search new × (new.refused ≡ old.refused)
IsTallyAfterRun start old (Stuck Total (Some search)) new = HasGrantPerExpansion start old search new × (new.refused ≡ true)
IsTallyAfterRun start old (Stuck Memory (Some search)) new = HasGrantPerExpansion start old search new × (new.refused ≡ old.refused)
IsTallyAfterRun start old (Stuck reason None) new = ⊥
