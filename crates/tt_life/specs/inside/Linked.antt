-- Points that are linked over points of a set, and what the elimination asks of a chain and of an eye.
use Rattle.std.specs.Prelude.{◌≡◌, ◌≢◌, ℕ, ◌<◌, ◌⊎◌, ◌↔◌, ◌&&◌, List, Some, None, All, IsTrue, ltb}
use Rattle.std.specs.FinSet as set
use Rattle.tt_sgf.specs.declared.size.Size.{Size}
use Rattle.tt_sgf.specs.Sizes.{point_count}
use Rattle.tt_sgf.specs.MachineWords.{bit_in}
use Rattle.tt_board.specs.Near.{IsNeighbour}
use Rattle.tt_board.specs.Position.{Colouring}
use Rattle.tt_board.specs.Reach.{entry_at, IsPath, path_end}
use Rattle.tt_game.specs.declared.frame.Frame.{Frame}
use Rattle.tt_life.specs.declared.elimination.Ground.{Ground}
use Rattle.tt_board.specs.Around.{AreOn}
use Rattle.tt_life.specs.Life.{Points, IsAliveAmong}

-- the points of the board whose bits are 1
unfoldable pub points_in : Size → List ℕ → Points
points_in size words p = ltb p (point_count size) && bit_in words p

-- adjacent points of the set lead from p to q
pub record IsLinked (size : Size) (own : Points) (p q : ℕ) : Type 0 where
  pub path : List ℕ
  pub adjacent : IsPath size p path
  pub within : All (λ x. IsTrue (own x)) path
  pub ends : path_end p path ≡ q

-- the set is what is linked to p over points of the other set
abbrev pub IsLinkedSet : Size → Points → ℕ → Points → Type 0
IsLinkedSet size own p linked = (q : ℕ) → IsTrue (linked q) ↔ IsLinked size own p q

-- each point beside one of the eye is of the eye, or one of the stones
abbrev pub IsWalled : Size → Points → Points → Type 0
IsWalled size stones eye = (p q : ℕ) → IsTrue (eye p) → IsNeighbour size p q → IsTrue (eye q) ⊎ IsTrue (stones q)

-- all points of the first set are in the second
abbrev pub IsSubset : Points → Points → Type 0
IsSubset a b = (q : ℕ) → IsTrue (a q) → IsTrue (b q)

-- what is linked to p over the eye space is walled in by the stones, and all of it is near
abbrev pub IsEyeAt : Size → Points → Points → Points → ℕ → Type 0
IsEyeAt size space stones near p =
    ((q : ℕ) → IsLinked size space p q → IsTrue (near q)) × ((x y : ℕ) → IsLinked size space p x → IsNeighbour size x y → IsLinked size space p y ⊎ IsTrue (stones y))

-- an empty point at such an eye
abbrev pub IsAtEye : Size → Ground → Points → Points → ℕ → Type 0
IsAtEye size g stones near q = IsTrue (points_in size g.empty.words q) × IsEyeAt size (points_in size g.space.words) stones near q

-- all of them are at one eye, if there is any
abbrev pub IsAtOneEye : Size → Ground → Points → Points → Type 0
IsAtOneEye size g stones near = (a b : ℕ) → IsAtEye size g stones near a → IsAtEye size g stones near b → IsLinked size (points_in size g.space.words) a b

-- these two are at different eyes
abbrev pub AreAtTwoEyes : Size → Ground → Points → Points → ℕ → ℕ → Type 0
AreAtTwoEyes size g stones near a b = IsAtEye size g stones near a × IsAtEye size g stones near b × (IsLinked size (points_in size g.space.words) a b → ⊥)

-- the points of a frame and a colouring: those without a stone of the defender, those without any, and of these the ones outside the region
pub record IsGroundOf (f : Frame) (c : Colouring) (g : Ground) : Type 0 where
  pub space_is : (q : ℕ) → IsTrue (points_in f.size g.space.words q) ↔ ((q < point_count f.size) × (entry_at c q ≢ Some f.defender))
  pub empty_is : (q : ℕ) → IsTrue (points_in f.size g.empty.words q) ↔ ((q < point_count f.size) × (entry_at c q ≡ None))
  pub outside_is : (q : ℕ) → IsTrue (points_in f.size g.outside.words q) ↔ ((q < point_count f.size) × (entry_at c q ≡ None) × (IsTrue (set.contains f.region q) → ⊥))

-- all of these are on the board, and an empty point is in the eye space
pub record IsSoundGround (size : Size) (g : Ground) : Type 0 where
  pub space_on : AreOn size g.space.words
  pub outside_on : AreOn size g.outside.words
  pub empty_within : IsSubset (points_in size g.empty.words) (points_in size g.space.words)

-- stones of the defender stand on all of them
abbrev pub AreDefenders : Frame → Colouring → Points → Type 0
AreDefenders f c stones = (q : ℕ) → IsTrue (stones q) → entry_at c q ≡ Some f.defender

-- each of the stones is alive among them
abbrev pub AreAlive : Frame → Colouring → Points → Type 0
AreAlive f c stones = (q : ℕ) → IsTrue (stones q) → IsAliveAmong f c stones q

-- of the stones, those that are left when all go that aren't alive among what is left: the most that are alive among themselves
pub record AreMostAlive (f : Frame) (c : Colouring) (stones left : Points) : Type 0 where
  pub within : IsSubset left stones
  pub alive : AreAlive f c left
  pub most : (others : Points) → IsSubset others stones → AreAlive f c others → IsSubset others left
