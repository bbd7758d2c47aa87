-- Jobs: the legal turns of a line, each searched by itself, and their results. Only private contracts cite these.
use Rattle.std.specs.Prelude.{◌≡◌, ◌⊎◌, ℕ, ◌+◌, ◌≤◌, Bool, true, false, List, Option, Some, None, slice_get}
use Rattle.tt_game.specs.declared.frame.Side.{Side}
use Rattle.tt_game.specs.declared.turns.Turn.{Turn}
use Rattle.tt_game.specs.Game.{after}
use Rattle.tt_game.specs.Line.{LineWithUndo}
use Rattle.tt_game.specs.Turns.{legal_turns}
use Rattle.tt_proof.specs.Strategy.{depth}
use Rattle.tt_proof.specs.ProofClaim.{StandsAt, IsWinningTree}
use Rattle.tt_search.specs.Numbers.{count}
use Rattle.tt_search.specs.Grants.{GrantTally}
use Rattle.tt_search.specs.Growing.{IsGrownFromRoot}
use Rattle.tt_search.specs.SearchState.{SearchState, IsStuckFor}
use Rattle.tt_search.specs.RunEnds.{IsProofOf}
use Rattle.tt_search.specs.declared.limits.Limits.{Limits}
use Rattle.tt_search.specs.declared.limits.TheConstants.{MOST_EXPANDED}
use Rattle.tt_search.specs.declared.limits.Reason.TheVariants.{Budget, Depth, Total, Memory}
use Rattle.tt_search.specs.declared.search.End.{End}
use Rattle.tt_search.specs.declared.search.End.TheVariants.{Settled, Stuck}
use Rattle.tt_share.specs.Answers.{IsSearchAfter, IsSearchCountAfter}
use Rattle.tt_share.specs.declared.jobs.JobResult.{JobResult}
use Rattle.tt_share.specs.declared.jobs.JobResult.TheVariants as result
use Rattle.tt_share.specs.declared.jobs.SearchedJob.{SearchedJob}

-- the search is stuck for the total
abbrev pub IsForTotal : End → Type 0
IsForTotal (Settled p) = ⊥
IsForTotal (Stuck Budget search) = ⊥
IsForTotal (Stuck Depth search) = ⊥
IsForTotal (Stuck Total search) = Unit {0}
IsForTotal (Stuck Memory search) = ⊥

-- how the search behind a turn ends: with a proof that leaves room for the turn, or stuck
abbrev pub EndsBehind : LineWithUndo → Limits → Turn → End → Type 0
EndsBehind line limits t (Settled p) = StandsAt p line.frame (after line.frame line.state t) × (depth p.tree + 1 ≤ limits.depth)
EndsBehind line limits t (Stuck reason (Some search)) =
    IsSearchAfter line limits t search × IsGrownFromRoot search.limits search.line.frame search.line.state search.tree × IsStuckFor reason search
EndsBehind line limits t (Stuck Budget None) = ⊥
EndsBehind line limits t (Stuck Depth None) = ⊥
EndsBehind line limits t (Stuck Total None) = ⊥
EndsBehind line limits t (Stuck Memory None) = Unit {0}

-- the search that ends so has so many expanded nodes: the one that is held, or one behind the turn whose proof it is
abbrev pub IsOwnCount : LineWithUndo → Limits → Turn → ℕ → End → Type 0
IsOwnCount line limits t n (Settled p) = (search : SearchState) × IsSearchAfter line limits t search
    × IsGrownFromRoot search.limits search.line.frame search.line.state search.tree × IsProofOf search p × (count search.tree ≡ n)
IsOwnCount line limits t n (Stuck reason (Some search)) = count search.tree ≡ n
IsOwnCount line limits t n (Stuck reason None) = Unit {0}

-- so many nodes were expanded behind the turn in the search that ends so
abbrev pub IsCounted : LineWithUndo → Limits → Turn → ℕ → End → Type 0
IsCounted line limits t n end = IsSearchCountAfter line limits t n × IsOwnCount line limits t n end

-- what a search asks for: so many expansions are granted; one is refused where it is stuck for the total, and later ones are too
pub record AsksFor (old : GrantTally) (n : ℕ) (end : End) (new : GrantTally) : Type 0 where
  pub granted : new.granted ≡ old.granted + n
  pub few : n ≤ MOST_EXPANDED
  pub refused : IsForTotal end → new.refused ≡ true
  pub still : old.refused ≡ true → new.refused ≡ true

-- the turn has this slot among the line's legal turns
abbrev pub IsJob : LineWithUndo → ℕ → Turn → Type 0
IsJob line job t = slice_get (legal_turns line.frame line.state) job ≡ Some t

-- the end of the search that a result tells of; where there is no search, it is one that is stuck for want of memory
abbrev pub end_of : JobResult → End
end_of (result.Settled p) = Settled p
end_of (result.Stuck reason search) = Stuck reason (Some search.value)
end_of result.Dropped = Stuck Memory None
end_of result.NoMemory = Stuck Memory None

-- the result is that of the search behind the job's turn
abbrev pub IsResultOf : LineWithUndo → Limits → ℕ → JobResult → Type 0
IsResultOf line limits job end = (t : Turn) → IsJob line job t → EndsBehind line limits t (end_of end)

-- the count is that of the search behind the job's turn
abbrev pub IsJobCount : LineWithUndo → Limits → ℕ → ℕ → JobResult → Type 0
IsJobCount line limits job n end = (t : Turn) → IsJob line job t → IsCounted line limits t n (end_of end)

abbrev pub IsResult : LineWithUndo → Limits → SearchedJob → Type 0
IsResult line limits searched = IsResultOf line limits searched.job searched.end × IsJobCount line limits searched.job searched.spent searched.end

-- each result that is known is its job's
abbrev pub AreResults : LineWithUndo → Limits → List (Option JobResult) → Type 0
AreResults line limits ends = (job : ℕ) (end : JobResult) → slice_get ends job ≡ Some (Some end) → IsResultOf line limits job end

-- the result is that of a run which ends so, or there was no memory for it
abbrev pub IsOfEnd : End → JobResult → Type 0
IsOfEnd end made = (end_of made ≡ end) ⊎ (made ≡ result.NoMemory)

-- the result is a proof for the side
abbrev pub IsWinFor : Side → JobResult → Type 0
IsWinFor side (result.Settled p) = p.side ≡ side
IsWinFor side (result.Stuck reason search) = ⊥
IsWinFor side result.Dropped = ⊥
IsWinFor side result.NoMemory = ⊥

-- the result is no proof
abbrev pub IsStuck : JobResult → Type 0
IsStuck (result.Settled p) = ⊥
IsStuck (result.Stuck reason search) = Unit {0}
IsStuck result.Dropped = Unit {0}
IsStuck result.NoMemory = Unit {0}

-- a search was stuck and isn't kept
abbrev pub IsDropped : JobResult → Type 0
IsDropped (result.Settled p) = ⊥
IsDropped (result.Stuck reason search) = ⊥
IsDropped result.Dropped = Unit {0}
IsDropped result.NoMemory = ⊥

-- the result is stuck, or a proof whose strategy wins
abbrev pub IsStuckOrWon : JobResult → Type 0
IsStuckOrWon (result.Settled p) = IsWinningTree p.side p.frame p.state p.tree
IsStuckOrWon (result.Stuck reason search) = Unit {0}
IsStuckOrWon result.Dropped = Unit {0}
IsStuckOrWon result.NoMemory = Unit {0}

-- a result as it is kept: a stuck search is dropped where a lesser job is stuck
abbrev pub kept_of : Bool → JobResult → JobResult
kept_of false end = end
kept_of true (result.Settled p) = result.Settled p
kept_of true (result.Stuck reason search) = result.Dropped
kept_of true result.Dropped = result.Dropped
kept_of true result.NoMemory = result.Dropped
