-- Which proofs may be used at a line.
use Rattle.std.specs.Prelude.{ℕ, ◌≤◌}
use Rattle.tt_game.specs.Line.{LineWithUndo}
use Rattle.tt_proof.specs.ProofClaim.{ProofClaim, IsWinningTree}
use Rattle.tt_proof.specs.Strategy.{depth}

-- the proof's strategy wins at the line, and is no deeper than the room
pub record IsUsable (room : ℕ) (line : LineWithUndo) (p : ProofClaim) : Type 0 where
  pub won : IsWinningTree p.side line.frame line.state p.tree
  pub shallow : depth p.tree ≤ room
