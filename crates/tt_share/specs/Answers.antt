-- What the answer to a line says.
use Rattle.std.specs.Prelude.{◌≡◌, ℕ, ◌+◌, ◌<◌, ◌≤◌, ◌↔◌, ◌⊎◌, List, [], Option, Some, None, All, Contains, IfSome, IsSome, map, sum_by}
use Rattle.std.specs.Arc.{arc_value}
use Rattle.tt_game.specs.declared.frame.Frame.{Frame}
use Rattle.tt_game.specs.declared.turns.Turn.{Turn}
use Rattle.tt_game.specs.declared.turns.Turn.TheVariants.{Pass}
use Rattle.tt_game.specs.Game.{State, IsLegal, after, opponent, Forces}
use Rattle.tt_game.specs.Line.{LineWithUndo}
use Rattle.tt_game.specs.Turns.{turn_number, legal_turns}
use Rattle.tt_proof.specs.Strategy.{depth}
use Rattle.tt_proof.specs.ProofClaim.{ProofClaim, StandsAt, first_turn_of}
use Rattle.tt_search.specs.declared.limits.Limits.{Limits}
use Rattle.tt_search.specs.declared.limits.Reason.{Reason}
use Rattle.tt_search.specs.declared.limits.Reason.TheVariants.{Budget, Depth, Total, Memory}
use Rattle.tt_search.specs.Numbers.{count}
use Rattle.tt_search.specs.Growing.{IsGrownFromRoot}
use Rattle.tt_search.specs.SearchState.{SearchState, IsStuckFor}
use Rattle.tt_share.specs.declared.answer.Answer.{Answer}
use Rattle.tt_share.specs.declared.answer.Answer.TheVariants.{Settled, Unsettled}
use Rattle.tt_share.specs.declared.answer.Stuck.{Stuck}

-- the proof stands at the line, within the limit on depth; its first turn is there exactly where its side is to move
pub record IsSettledAnswer (line : LineWithUndo) (limits : Limits) (p : ProofClaim) (first : Option Turn) : Type 0 where
  pub stands : StandsAt p line.frame line.state
  pub shallow : depth p.tree ≤ limits.depth
  pub first_is : first ≡ first_turn_of p.tree
  pub shown : IsSome first ↔ (p.side ≡ line.state.to_move)

-- the search is on the line after the turn, under the same budget and a depth one less
pub record IsSearchAfter (line : LineWithUndo) (limits : Limits) (t : Turn) (search : SearchState) : Type 0 where
  pub frame : search.line.frame ≡ line.frame
  pub state : search.line.state ≡ after line.frame line.state t
  pub budget : search.limits.budget ≡ limits.budget
  pub depth_is : search.limits.depth + 1 ≡ limits.depth

-- some search behind the turn is grown from there and has so many expanded nodes
abbrev pub IsSearchCountAfter : LineWithUndo → Limits → Turn → ℕ → Type 0
IsSearchCountAfter line limits t n =
    (search : SearchState) × IsSearchAfter line limits t search × IsGrownFromRoot search.limits search.line.frame search.line.state search.tree × (count search.tree ≡ n)

-- how many nodes are expanded in all
abbrev pub spent_in_all : List (Turn × ℕ) → ℕ
spent_in_all spent = sum_by (λ (e : Turn × ℕ). e.1) spent

-- How many nodes searches behind the legal turns expanded
pub record AreSearchCounts (line : LineWithUndo) (limits : Limits) (spent : List (Turn × ℕ)) : Type 0 where
  -- each legal turn is there, in rising order
  pub turns : map (λ (e : Turn × ℕ). e.0) spent ≡ legal_turns line.frame line.state
  -- each with the count of a grown search behind it, under the same budget and a depth one less
  pub counts : All (λ (e : Turn × ℕ). IsSearchCountAfter line limits e.0 e.1) spent

-- searches behind the legal turns expanded so many in all
abbrev pub IsExpandedInAll : LineWithUndo → Limits → ℕ → Type 0
IsExpandedInAll line limits n = (spent : List (Turn × ℕ)) × AreSearchCounts line limits spent × (spent_in_all spent ≡ n)

-- How so many nodes in all were expanded, where the search is behind the turn
pub record IsSpent (line : LineWithUndo) (limits : Limits) (n : ℕ) (t : Turn) (search : SearchState) (spent : List (Turn × ℕ)) : Type 0 where
  -- by searches behind the legal turns
  pub by : AreSearchCounts line limits spent
  -- the search's own count is there
  pub own : Contains spent (t, count search.tree)
  -- the counts add up to that
  pub in_all : spent_in_all spent ≡ n

-- the search is one of those behind the legal turns, and these expanded no more in all than the total, where there is one
abbrev pub IsWithinTotal : LineWithUndo → Limits → Option ℕ → Turn → SearchState → Type 0
IsWithinTotal line limits total t search = (n : ℕ) × (spent : List (Turn × ℕ)) × IsSpent line limits n t search spent × IfSome total (λ most. n ≤ most)

-- what is known of the counts: all of them where the total is spent, and else nothing
abbrev pub counts_if_total_spent_of : Reason → List (Turn × ℕ) → List (Turn × ℕ)
counts_if_total_spent_of Budget spent = []
counts_if_total_spent_of Depth spent = []
counts_if_total_spent_of Total spent = spent
counts_if_total_spent_of Memory spent = []

-- after each legal turn of a lesser number the side that is not to move can force its win
abbrev pub LesserTurnsLose : Frame → State → Turn → Type 0
LesserTurnsLose f s t =
    (u : Turn) → IsLegal f s u → turn_number f u < turn_number f t → (n : ℕ) × Forces f (opponent s.to_move) n (after f s u)

-- the turn is legal, the grown search behind it is stuck for the reason, and the lesser turns lose
pub record IsStuckAfter (line : LineWithUndo) (limits : Limits) (reason : Reason) (t : Turn) (search : SearchState) : Type 0 where
  pub legal : IsLegal line.frame line.state t
  pub behind : IsSearchAfter line limits t search
  pub grown : IsGrownFromRoot search.limits search.line.frame search.line.state search.tree
  pub stuck_for : IsStuckFor reason search
  pub lesser_lose : LesserTurnsLose line.frame line.state t

-- memory was refused: outside a job the turn is a pass and no search is held, inside one it is the job's, and the lesser
-- turns lose; a search that is held is behind that turn
pub record IsStuckForMemory (line : LineWithUndo) (limits : Limits) (stuck : Stuck) : Type 0 where
  pub turn : ((stuck.turn ≡ Pass) × (stuck.search ≡ None)) ⊎ (IsLegal line.frame line.state stuck.turn × LesserTurnsLose line.frame line.state stuck.turn)
  pub behind : (search : SearchState) → stuck.search ≡ Some search → IsSearchAfter line limits stuck.turn search × IsGrownFromRoot search.limits search.line.frame search.line.state search.tree

-- the search that is held is stuck behind the turn, within the total, or memory was refused; it is stuck for the total only where there
-- is one, and then all of it is spent
abbrev pub IsUnsettledAnswer : LineWithUndo → Limits → Option ℕ → Reason → Stuck → Type 0
IsUnsettledAnswer line limits total Budget stuck = (search : SearchState) × (stuck.search ≡ Some search)
    × IsStuckAfter line limits Budget stuck.turn search × IsWithinTotal line limits total stuck.turn search × (stuck.spent.items ≡ [])
IsUnsettledAnswer line limits total Depth stuck = (search : SearchState) × (stuck.search ≡ Some search)
    × IsStuckAfter line limits Depth stuck.turn search × IsWithinTotal line limits total stuck.turn search × (stuck.spent.items ≡ [])
IsUnsettledAnswer line limits total Total stuck = (n : ℕ) × (total ≡ Some n) × (search : SearchState) × (stuck.search ≡ Some search)
    × IsStuckAfter line limits Total stuck.turn search × IsSpent line limits n stuck.turn search stuck.spent.items
IsUnsettledAnswer line limits total Memory stuck = IsStuckForMemory line limits stuck × (stuck.spent.items ≡ [])

-- a proof of the line and its first turn, or what is stuck
abbrev pub IsAnswer : LineWithUndo → Limits → Option ℕ → Answer → Type 0
IsAnswer line limits total (Settled proof first) = IsSettledAnswer line limits (arc_value proof) first
IsAnswer line limits total (Unsettled stuck) = IsUnsettledAnswer line limits total stuck.reason stuck
