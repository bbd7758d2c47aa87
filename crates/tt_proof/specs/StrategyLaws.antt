-- Laws of strategies and their texts.
use Rattle.std.specs.Prelude.{ℕ, ◌≡◌, ◌≢◌, ◌↔◌, List, [], ◌∷◌, ◌++◌, Contains}
use Rattle.std.specs.Global.{Global}
use Rattle.std.specs.declared.sync.Arc.{Arc}
use Rattle.std.specs.declared.vec.Vec.{Vec}
use Rattle.tt_sgf.specs.declared.size.Size.{Size}
use Rattle.tt_board.specs.Position.{Colouring}
use Rattle.tt_game.specs.Game.{State, Forces, after, history, opponent, colouring_after_play, game_length_bound}
use Rattle.tt_game.specs.GameLaws.{IsWellFormedState}
use Rattle.tt_game.specs.declared.frame.Side.{Side}
use Rattle.tt_game.specs.declared.frame.Side.TheVariants.{Attacker}
use Rattle.tt_game.specs.declared.frame.Frame.{Frame}
use Rattle.tt_game.specs.declared.turns.Turn.{Turn}
use Rattle.tt_game.specs.declared.turns.Turn.TheVariants.{Play}
use Rattle.tt_proof.specs.declared.tree.Tree.{Tree, Done, Pick, Reply}
use Rattle.tt_proof.specs.Strategy.{Strategy, depth, IsInOrder, done, pick, reply, strategy_of, entries_of_reply}
use Rattle.tt_proof.specs.Wins.{Wins, WinsOrLives}
use Rattle.tt_proof.specs.Footprints.{IsNeeded, IsAvoided, IsMet, Fits}
use Rattle.tt_proof.specs.CertificateText.{IsCertificate, tree_text}

-- a strategy that wins makes its side force, within its depth
abbrev pub WinningStrategyForces : Type 0
WinningStrategyForces = (side : Side) (f : Frame) (u : Strategy) (s : State) → Wins side f u s → Forces f side (depth u) s

-- where a strategy wins that may end at life, the other side doesn't force a win, in any number of turns; so at a state of the game
-- its side does
abbrev pub StrategyToLifeForces : Type 0
StrategyToLifeForces = (side : Side) (f : Frame) (u : Strategy) (s : State) → WinsOrLives side f u s
    → ((n : ℕ) → Forces f (opponent side) n s → ⊥) × (IsWellFormedState f s → Forces f side (game_length_bound f) s)

-- a strategy that wins also wins where it may end at life; for the attacker no other strategy does
abbrev pub WinsAreWinsOrLives : Type 0
WinsAreWinsOrLives = (f : Frame) (u : Strategy) (s : State)
    → ((side : Side) → Wins side f u s → WinsOrLives side f u s) × (WinsOrLives Attacker f u s → Wins Attacker f u s)

-- a strategy that wins from one state wins from each state that it fits
abbrev pub FittingTreesWin : Type 0
FittingTreesWin = (side : Side) (f : Frame) (u : Strategy) (s s' : State) → Wins side f u s → Fits f u s s' → Wins side f u s'

-- so does a strategy that may end at life
abbrev pub FittingTreesWinOrLive : Type 0
FittingTreesWinOrLive = (side : Side) (f : Frame) (u : Strategy) (s s' : State) → WinsOrLives side f u s → Fits f u s s' → WinsOrLives side f u s'

-- where a strategy fits, and the history has no colouring that it meets but what its own history has, it needs, avoids and meets
-- there what it does at its own state
abbrev pub FootprintsCarryOverIfUnmet : Type 0
FootprintsCarryOverIfUnmet =
    (side : Side) (f : Frame) (u : Strategy) (s s' : State) → Wins side f u s → IsInOrder f.size u → Fits f u s s'
    → ((c : Colouring) → IsMet f u s c → Contains (history s') c → Contains (history s) c)
    → (c : Colouring)
    → (IsNeeded f (history s) u [] s c ↔ IsNeeded f (history s') u [] s' c) × (IsAvoided f u s c ↔ IsAvoided f u s' c) × (IsMet f u s c ↔ IsMet f u s' c)

-- after a play, a strategy needs in the history from before it what it needs in its own, less the colouring played
abbrev pub NeedsLosePlayedColouring : Type 0
NeedsLosePlayedColouring =
    (f : Frame) (u : Strategy) (s : State) (p : ℕ) (c : Colouring)
    → IsNeeded f (history s) u (colouring_after_play f s p ∷ []) (after f s (Play p)) c
    ↔ (IsNeeded f (history (after f s (Play p))) u [] (after f s (Play p)) c × (c ≢ colouring_after_play f s p))

-- a text is of one strategy, and none is a proper beginning of another
abbrev pub OneStrategyPerTextPrefix : Type 0
OneStrategyPerTextPrefix = (size : Size) (u v : Strategy) (y z : List ℕ) → tree_text size u ++ y ≡ tree_text size v ++ z → (u ≡ v) × (y ≡ z)

-- bytes are the certificate of one side and one strategy at the most
abbrev pub OneStrategyPerCertificate : Type 0
OneStrategyPerCertificate =
    (size : Size) (bytes : List ℕ) (s t : Side) (u v : Strategy) → IsCertificate size bytes s u → IsCertificate size bytes t v → (s ≡ t) × (u ≡ v)

-- what strategy a tree is, at each of its forms
pub record StrategyOfEquations : Type 0 where
  pub of_done : strategy_of Done ≡ done
  pub of_pick : (t : Turn) (b : Arc Tree Global) → strategy_of (Pick t b) ≡ pick t (strategy_of b.value)
  pub of_reply : (b : Arc (Vec (Turn × Tree) Global) Global) → strategy_of (Reply b) ≡ reply (entries_of_reply b.value.items)
