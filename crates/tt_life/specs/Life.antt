-- Unconditional life: stones that the attacker can't take, even if their side always passes (D. B. Benson, Life in the Game of Go, 1976).
-- Benson speaks of chains and their vital regions. Here a stone touches a point by stones of the set that link it to a neighbour of it.
-- Benson asks that a chain touches each empty point of an eye. Under the Tromp-Taylor rules several stones may commit suicide: the
-- attacker fills such an eye, empties it, and it's larger than before. So here each point of an eye has to be touched, those with the
-- attacker's stones among them. (;SZ[5:1]AB[ca]AW[aa][ea]PL[W]TR[ca]) shows why:
--
--     O . X . O     White's play on b gives up two stones. White plays on b again, and on d, which takes the stone on c, if Black
--                   only passes
--
use Rattle.std.specs.Prelude.{◌≡◌, ◌≢◌, ℕ, ◌<◌, ◌⊎◌, List, Some, None, Bool, All, IsTrue}
use Rattle.std.specs.FinSet as set
use Rattle.tt_sgf.specs.declared.size.Size.{Size}
use Rattle.tt_sgf.specs.Sizes.{point_count}
use Rattle.tt_board.specs.declared.Colour.{Colour}
use Rattle.tt_board.specs.Near.{IsNeighbour}
use Rattle.tt_board.specs.Position.{Colouring}
use Rattle.tt_board.specs.Reach.{entry_at, IsPath, path_end}
use Rattle.tt_board.specs.Play.{other, play_of}
use Rattle.tt_game.specs.declared.frame.Side.{Side}
use Rattle.tt_game.specs.declared.frame.Side.TheVariants.{Attacker, Defender}
use Rattle.tt_game.specs.declared.frame.Frame.{Frame}
use Rattle.tt_game.specs.Game.{State, winner_of, opponent, Forces, HasValue, lives, game_length_bound}
use Rattle.tt_game.specs.GameLaws.{IsWellFormedState}

-- a set of points, as the test of what is in it
abbrev pub Points : Type 0
Points = ℕ → Bool

-- all points of the set are on a board of this size
abbrev pub AreOnBoard : Size → Points → Type 0
AreOnBoard size s = (p : ℕ) → IsTrue (s p) → p < point_count size

-- the stone on p touches the point q: adjacent stones of the set lead from p to one that is beside q
pub record StoneTouches (size : Size) (stones : Points) (p q : ℕ) : Type 0 where
  pub path : List ℕ
  pub adjacent : IsPath size p path
  pub within : All (λ x. IsTrue (stones x)) path
  pub beside : IsNeighbour size (path_end p path) q

-- An eye of these stones, whose colour is k: points of the board without a stone of that colour, at least one of them empty.
-- Each point beside one of the eye is itself of the eye, or one of the stones
pub record IsEye (size : Size) (c : Colouring) (k : Colour) (stones eye : Points) : Type 0 where
  pub on_board : AreOnBoard size eye
  pub without_own : (p : ℕ) → IsTrue (eye p) → entry_at c p ≢ Some k
  pub has_empty : (p : ℕ) × IsTrue (eye p) × (entry_at c p ≡ None)
  pub walled : (p q : ℕ) → IsTrue (eye p) → IsNeighbour size p q → IsTrue (eye q) ⊎ IsTrue (stones q)

-- such an eye, each of whose points the stone on p touches
abbrev pub IsEyeOf : Size → Colouring → Colour → Points → ℕ → Points → Type 0
IsEyeOf size c k stones p eye = IsEye size c k stones eye × ((q : ℕ) → IsTrue (eye q) → StoneTouches size stones p q)

-- no point is of both sets
abbrev pub AreDisjoint : Points → Points → Type 0
AreDisjoint a b = (q : ℕ) → IsTrue (a q) → IsTrue (b q) → ⊥

-- the stone on p has two disjoint eyes
abbrev pub HasTwoEyes : Size → Colouring → Colour → Points → ℕ → Type 0
HasTwoEyes size c k stones p = (a : Points) × (b : Points) × IsEyeOf size c k stones p a × IsEyeOf size c k stones p b × AreDisjoint a b

-- a and b are empty points of two disjoint eyes of the stone on p
abbrev pub HasTwoEyesAt : Size → Colouring → Colour → Points → ℕ → ℕ → ℕ → Type 0
HasTwoEyesAt size c k stones p a b =
    (x : Points) × (y : Points) × IsEyeOf size c k stones p x × IsEyeOf size c k stones p y × AreDisjoint x y × IsTrue (x a) × IsTrue (y b)
    × (entry_at c a ≡ None) × (entry_at c b ≡ None)

-- the stone on p touches an empty point outside the region, where nobody plays
abbrev pub HasLibertyOutside : Frame → Colouring → Points → ℕ → Type 0
HasLibertyOutside f c stones p = (q : ℕ) × StoneTouches f.size stones p q × (entry_at c q ≡ None) × (IsTrue (set.contains f.region q) → ⊥)

-- the stone on p has a liberty outside the region, or two eyes
abbrev pub IsAliveAmong : Frame → Colouring → Points → ℕ → Type 0
IsAliveAmong f c stones p = HasLibertyOutside f c stones p ⊎ HasTwoEyes f.size c f.defender stones p

-- a and b are empty points of two disjoint eyes of a target, which is among stones of the defender that are alive among themselves
pub record AreEyesOfTarget (f : Frame) (c : Colouring) (a b : ℕ) : Type 0 where
  pub stones : Points
  pub on_board : AreOnBoard f.size stones
  pub defenders : (p : ℕ) → IsTrue (stones p) → entry_at c p ≡ Some f.defender
  pub alive : (p : ℕ) → IsTrue (stones p) → IsAliveAmong f c stones p
  pub target : ℕ
  pub is_target : IsTrue (set.contains f.targets target)
  pub stands : IsTrue (stones target)
  pub eyes : HasTwoEyesAt f.size c f.defender stones target a b

-- These stones of the defender, all targets among them, are unconditionally alive: each has a liberty outside the region, or two
-- eyes
pub record AreUnconditionallyAlive (f : Frame) (c : Colouring) (stones : Points) : Type 0 where
  pub on_board : AreOnBoard f.size stones
  pub defenders : (p : ℕ) → IsTrue (stones p) → entry_at c p ≡ Some f.defender
  pub have_targets : (p : ℕ) → IsTrue (set.contains f.targets p) → IsTrue (stones p)
  pub alive : (p : ℕ) → IsTrue (stones p) → IsAliveAmong f c stones p

-- the targets are among stones that are unconditionally alive
abbrev pub IsUnconditionallyAlive : Frame → Colouring → Type 0
IsUnconditionallyAlive f c = (stones : Points) × AreUnconditionallyAlive f c stones

-- the side has won; or it is the defender, the attacker is to move, and the targets are unconditionally alive
abbrev pub HasWonOrLives : Side → Frame → State → Type 0
HasWonOrLives side f s = (winner_of f s ≡ Some side) ⊎ ((side ≡ Defender) × (s.to_move ≡ Attacker) × IsUnconditionallyAlive f s.present)

-- the attacker's play on an empty point of the region leaves them so, the same stones with the targets among them
abbrev pub LifeIsKept : Type 0
LifeIsKept = (f : Frame) (c : Colouring) (stones : Points) (p : ℕ) → AreUnconditionallyAlive f c stones → entry_at c p ≡ None
    → IsTrue (set.contains f.region p) → AreUnconditionallyAlive f (play_of f.size c (other f.defender) p) stones

-- the attacker doesn't force a win over them, whoever moves
abbrev pub LifeIsNeverTaken : Type 0
LifeIsNeverTaken = (f : Frame) (s : State) (n : ℕ) → IsUnconditionallyAlive f s.present → Forces f Attacker n s → ⊥

-- so the defender does, and the problem lives
abbrev pub LifeLives : Type 0
LifeLives = (f : Frame) (s : State) → IsWellFormedState f s → IsUnconditionallyAlive f s.present → HasValue f s lives × Forces f Defender (game_length_bound f) s

-- where a side has won or lives, the other side doesn't force a win
abbrev pub WonOrLivesIsHeld : Type 0
WonOrLivesIsHeld = (side : Side) (f : Frame) (s : State) (n : ℕ) → HasWonOrLives side f s → Forces f (opponent side) n s → ⊥
