-- What a proof is seen as, and what is known of it.
use Rattle.std.specs.Prelude.{◌≡◌, ◌≤◌, ◌<◌, List, [], ◌∷◌, map, Option, Some, None}
use Rattle.tt_game.specs.Game.{State, after, opponent}
use Rattle.tt_game.specs.declared.frame.Side.{Side}
use Rattle.tt_game.specs.declared.turns.Turn.{Turn}
use Rattle.tt_game.specs.declared.frame.Frame.{Frame}
use Rattle.tt_proof.specs.declared.tree.TheConstants.{MOST_DEPTH}
use Rattle.tt_proof.specs.Strategy.{Strategy, done, pick, reply, depth, IsInOrder}
use Rattle.tt_proof.specs.EndRules.{EndRule, at_win}
use Rattle.tt_proof.specs.Wins.{WinsUnder}

-- a problem, a state of it, and a strategy for a side
pub record ProofClaim : Type 0 where
  pub frame : Frame
  pub state : State
  pub side : Side
  pub tree : Strategy

-- the tree wins by the rule on where it may end, has at most 512 turns on any way down, and is in order
pub record IsWinningTreeUnder (rule : EndRule) (side : Side) (f : Frame) (s : State) (u : Strategy) : Type 0 where
  pub wins : WinsUnder rule side f u s
  pub shallow : depth u ≤ MOST_DEPTH
  pub in_order : IsInOrder f.size u

-- the same, where it may end only where its side has won
abbrev pub IsWinningTree : Side → Frame → State → Strategy → Type 0
IsWinningTree = IsWinningTreeUnder at_win

-- the proof has this frame, history, side to move and pass count
abbrev pub StandsAt : ProofClaim → Frame → State → Type 0
StandsAt p f s = (p.frame ≡ f) × (p.state ≡ s)

-- the proof is the side's, stands after the turn, and has room for one more turn
pub record IsChild (f : Frame) (s : State) (side : Side) (t : Turn) (p : ProofClaim) : Type 0 where
  pub stands : StandsAt p f (after f s t)
  pub same_side : p.side ≡ side
  pub shallow : depth p.tree < MOST_DEPTH

-- each is a child for its turn, of the side that is not to move
abbrev pub AreReplyChildren : Frame → State → List (Turn × ProofClaim) → Type 0
AreReplyChildren f s [] = Unit {0}
AreReplyChildren f s (e ∷ es) = IsChild f s (opponent s.to_move) e.0 e.1 × AreReplyChildren f s es

abbrev pub turns_of : List (Turn × ProofClaim) → List Turn
turns_of es = map (λ e. e.0) es

-- the children's trees
abbrev pub trees_by_turn : List (Turn × ProofClaim) → List (Turn × Strategy)
trees_by_turn es = map (λ e. (e.0, e.1.tree)) es

-- the turn that the strategy begins with
abbrev pub first_turn_of : Strategy → Option Turn
first_turn_of done = None
first_turn_of (pick t u) = Some t
first_turn_of (reply es) = None
