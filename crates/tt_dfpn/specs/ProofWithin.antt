-- What the certifier finds.
use Rattle.std.specs.Prelude.{◌≡◌, ◌≤◌, ℕ}
use Rattle.tt_game.specs.Game.{State}
use Rattle.tt_game.specs.declared.frame.Frame.{Frame}
use Rattle.tt_game.specs.declared.frame.Side.{Side}
use Rattle.tt_proof.specs.ProofClaim.{ProofClaim, StandsAt}
use Rattle.tt_proof.specs.Strategy.{depth}

-- the side's proof stands here, and is no deeper than the room
abbrev pub IsProofWithin : Side → ℕ → Frame → State → ProofClaim → Type 0
IsProofWithin side room f s p = StandsAt p f s × (p.side ≡ side) × (depth p.tree ≤ room)
