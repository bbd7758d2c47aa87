-- Which proofs a store may answer, and which one a store answers that keeps them in a list.
use Rattle.std.specs.Prelude.{◌≡◌, ℕ, ◌⊎◌, List, [], ◌∷◌, Option, Some, None}
use Rattle.tt_game.specs.declared.frame.Side.{Side}
use Rattle.tt_game.specs.Line.{LineWithUndo}
use Rattle.tt_game.specs.Keys.{key_of}
use Rattle.tt_proof.specs.ProofClaim.{ProofClaim}

-- the proof has the line's key and is for the side
pub record HasKeyAndSide (line : LineWithUndo) (side : Side) (p : ProofClaim) : Type 0 where
  pub same_key : key_of p.frame p.state ≡ key_of line.frame line.state
  pub for_side : p.side ≡ side

-- the answer is the newest proof of the line's key for the side, or none where there is none; the list begins with the
-- newest
abbrev pub IsNewest : LineWithUndo → Side → List ProofClaim → Option ProofClaim → Type 0
IsNewest line side [] o = o ≡ None
IsNewest line side (p ∷ ps) o =
    (HasKeyAndSide line side p × (o ≡ Some p)) ⊎ ((HasKeyAndSide line side p → ⊥) × IsNewest line side ps o)

-- the proofs that were kept, the newest first, and how many there may be
pub record KeptProofs : Type 0 where
  pub proofs : List ProofClaim
  pub capacity : ℕ
