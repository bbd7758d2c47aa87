-- How the jobs of a line ended, as far as it is known. Only private contracts cite these.
use Rattle.std.specs.Prelude.{◌≡◌, ◌≢◌, ℕ, ◌+◌, ◌<◌, ◌≤◌, ◌⊎◌, ◌↔◌, Bool, true, IsTrue, All, List, Option, Some, None, slice_get, slice_set, take, length, map, replicate}
use Rattle.tt_game.specs.declared.frame.Side.{Side}
use Rattle.tt_game.specs.declared.turns.Turn.{Turn}
use Rattle.tt_game.specs.Game.{after, opponent}
use Rattle.tt_game.specs.Line.{LineWithUndo}
use Rattle.tt_game.specs.Turns.{legal_turns}
use Rattle.tt_proof.specs.Strategy.{depth}
use Rattle.tt_proof.specs.ProofClaim.{ProofClaim, StandsAt, IsWinningTree, turns_of}
use Rattle.tt_search.specs.Grants.{GrantTally}
use Rattle.tt_search.specs.SearchState.{SearchState}
use Rattle.tt_search.specs.declared.limits.Limits.{Limits}
use Rattle.tt_search.specs.declared.limits.Reason.{Reason}
use Rattle.tt_search.specs.declared.search.End.TheVariants.{Stuck}
use Rattle.tt_share.specs.Answers.{spent_in_all}
use Rattle.tt_share.specs.inside.Jobs.{IsWinFor, IsStuck, IsForTotal, IsCounted, IsStuckOrWon, end_of, kept_of}
use Rattle.tt_share.specs.declared.jobs.JobResult.{JobResult}
use Rattle.tt_share.specs.declared.jobs.SearchedJob.{SearchedJob}

-- a line, the limits on its search, and the ends of its jobs, as far as they are known; and the jobs' turns, each with how many
-- nodes its search expanded
pub record ResultsSoFar : Type 0 where
  pub line : LineWithUndo
  pub limits : Limits
  pub ends : List (Option JobResult)
  pub spent : List (Turn × ℕ)

-- the job has this result
abbrev pub HasEnd : List (Option JobResult) → ℕ → JobResult → Type 0
HasEnd ends job end = slice_get ends job ≡ Some (Some end)

-- what is noted of the jobs: the turns, and for each job that has a result its count; the others expanded nothing
pub record AreNoted (line : LineWithUndo) (limits : Limits) (ends : List (Option JobResult)) (spent : List (Turn × ℕ)) : Type 0 where
  pub turns : map (λ (e : Turn × ℕ). e.0) spent ≡ legal_turns line.frame line.state
  pub each : length spent ≡ length ends
  pub unspent : (job : ℕ) (e : Turn × ℕ) → slice_get ends job ≡ Some None → slice_get spent job ≡ Some e → e.1 ≡ 0
  pub noted : (job : ℕ) (end : JobResult) (e : Turn × ℕ) → HasEnd ends job end → slice_get spent job ≡ Some e → IsCounted line limits e.0 e.1 (end_of end)

-- nothing is known of any job
pub record KnowsNothing (p : ResultsSoFar) : Type 0 where
  pub none : p.ends ≡ replicate (length (legal_turns p.line.frame p.line.state)) None
  pub unspent : spent_in_all p.spent ≡ 0

-- some job is stuck for the total
abbrev pub HasTotal : List (Option JobResult) → Type 0
HasTotal ends = (job : ℕ) × (end : JobResult) × HasEnd ends job end × IsForTotal (end_of end)

-- The searches keep to a total, where there is one
pub record KeepsTotal (total : Option ℕ) (p : ResultsSoFar) : Type 0 where
  -- no more than it is spent, whatever the results are
  pub within : (n : ℕ) → total ≡ Some n → spent_in_all p.spent ≤ n
  -- all of it where some job is stuck for it
  pub all : HasTotal p.ends → (n : ℕ) × (total ≡ Some n) × (spent_in_all p.spent ≡ n)

-- How the searches spend a total, where there is one, of which so much was granted
pub record SpendsTotal (total : Option ℕ) (granted : ℕ) (p : ResultsSoFar) : Type 0 where
  pub keeps : KeepsTotal total p
  -- what was granted, and nothing else
  pub granted_is : (n : ℕ) → total ≡ Some n → spent_in_all p.spent ≡ granted
  -- without a total nothing is counted
  pub none : total ≡ None → granted ≡ 0

-- what was asked for while results were put: as many were granted as the counts rose by, and one was refused where a job is newly
-- stuck for the total
pub record AskedFor (before : ResultsSoFar) (old : GrantTally) (after : ResultsSoFar) (new : GrantTally) : Type 0 where
  pub spent : spent_in_all after.spent + old.granted ≡ spent_in_all before.spent + new.granted
  pub refused : HasTotal after.ends → HasTotal before.ends ⊎ (new.refused ≡ true)
  pub still : old.refused ≡ true → new.refused ≡ true

-- the job has a result
abbrev pub HasResult : List (Option JobResult) → ℕ → Type 0
HasResult ends job = (end : JobResult) × HasEnd ends job end

-- each job below the count has a result
abbrev pub FilledBelow : ℕ → List (Option JobResult) → Type 0
FilledBelow count ends = (job : ℕ) → job < count → HasResult ends job

-- there is a result, and it is a proof for the side
abbrev pub IsWinIn : Side → Option JobResult → Type 0
IsWinIn side None = ⊥
IsWinIn side (Some end) = IsWinFor side end

-- the job has a result, and that is a proof for the side
abbrev pub IsWinAt : Side → List (Option JobResult) → ℕ → Type 0
IsWinAt side ends job = (end : JobResult) × HasEnd ends job end × IsWinFor side end

-- no job has a proof for the side
abbrev pub NoWin : Side → List (Option JobResult) → Type 0
NoWin side ends = (job : ℕ) → ¬ IsWinAt side ends job

-- the job has one, and no lesser job has
pub record IsLeastWin (side : Side) (ends : List (Option JobResult)) (job : ℕ) : Type 0 where
  pub wins : IsWinAt side ends job
  pub least : (lesser : ℕ) → lesser < job → ¬ IsWinAt side ends lesser

-- there is no result, or it is stuck, or a proof whose strategy wins
abbrev pub HasWonIn : Option JobResult → Type 0
HasWonIn None = Unit {0}
HasWonIn (Some end) = IsStuckOrWon end

-- the strategy of each proof wins
abbrev pub AllStuckOrWon : List (Option JobResult) → Type 0
AllStuckOrWon ends = (job : ℕ) (end : JobResult) → HasEnd ends job end → IsStuckOrWon end

-- there is a result, and it is a stuck search
abbrev pub IsStuckIn : Option JobResult → Type 0
IsStuckIn None = ⊥
IsStuckIn (Some end) = IsStuck end

-- the job has a result, and that is a stuck search
abbrev pub IsStuckAt : List (Option JobResult) → ℕ → Type 0
IsStuckAt ends job = (end : JobResult) × HasEnd ends job end × IsStuck end

-- a lesser job is stuck
abbrev pub IsPastStuck : List (Option JobResult) → ℕ → Type 0
IsPastStuck ends job = (lesser : ℕ) × (lesser < job) × IsStuckAt ends lesser

-- the search of the job is stuck like this, and no lesser job is stuck
pub record IsLeastStuck (ends : List (Option JobResult)) (job : ℕ) (reason : Reason) (search : Option SearchState) : Type 0 where
  pub stuck : (end : JobResult) × HasEnd ends job end × (end_of end ≡ Stuck reason search)
  pub least : ¬ IsPastStuck ends job

-- some job has a proof for the side, or each has a result
abbrev pub IsReady : Side → List (Option JobResult) → Type 0
IsReady side ends = ((job : ℕ) × IsWinAt side ends job) ⊎ FilledBelow (length ends) ends

-- no job is stuck
abbrev pub NoneStuck : List (Option JobResult) → Type 0
NoneStuck ends = (job : ℕ) → ¬ IsStuckAt ends job

-- each result that stood there still does
abbrev pub KeepsEnds : List (Option JobResult) → List (Option JobResult) → Type 0
KeepsEnds before after = (job : ℕ) (end : JobResult) → HasEnd before job end → HasEnd after job end

-- a result is put at its slot where that is free, as it is kept; else it is dropped
pub record Puts (before after : List (Option JobResult)) (searched : SearchedJob) : Type 0 where
  pub put : slice_get before searched.job ≡ Some None → (past_stuck : Bool) × (IsTrue past_stuck ↔ IsPastStuck before searched.job)
      × (after ≡ slice_set before searched.job (Some (kept_of past_stuck searched.end)))
  pub dropped : slice_get before searched.job ≢ Some None → after ≡ before
  pub len : length after ≡ length before

-- a result's count is noted where the result is put
pub record Notes (before after : ResultsSoFar) (searched : SearchedJob) : Type 0 where
  pub put : slice_get before.ends searched.job ≡ Some None → spent_in_all after.spent ≡ spent_in_all before.spent + searched.spent
  pub dropped : slice_get before.ends searched.job ≢ Some None → after.spent ≡ before.spent

-- nothing was searched behind a win
abbrev pub StopsAtWin : Side → List (Option JobResult) → List (Option JobResult) → Type 0
StopsAtWin side before after =
    (job later : ℕ) → IsWinAt side after job → job < later → slice_get after later ≡ slice_get before later

-- the turn has lost: the proof stands after it, for the side that is not to move, and leaves room for the turn
pub record IsLost (line : LineWithUndo) (limits : Limits) (child : Turn × ProofClaim) : Type 0 where
  pub stands : StandsAt child.1 line.frame (after line.frame line.state child.0)
  pub side : child.1.side ≡ opponent line.state.to_move
  pub shallow : depth child.1.tree + 1 ≤ limits.depth
  pub wins : IsWinningTree child.1.side child.1.frame child.1.state child.1.tree

-- these are the first of the legal turns, each with the proof that it has lost
pub record HaveLost (line : LineWithUndo) (limits : Limits) (children : List (Turn × ProofClaim)) : Type 0 where
  pub turns : turns_of children ≡ take (length children) (legal_turns line.frame line.state)
  pub each : All (IsLost line limits) children
