-- Certificates with shared parts that win.
use Rattle.std.specs.Prelude.{◌≡◌, ◌≤◌, ℕ, List, [], Option, None}
use Rattle.tt_game.specs.Game.{State}
use Rattle.tt_game.specs.declared.frame.Frame.{Frame}
use Rattle.tt_game.specs.declared.frame.Side.{Side}
use Rattle.tt_game.specs.declared.turns.Turn.{Turn}
use Rattle.tt_parts.specs.Outlines.{Outline, IsSharedCertificate, unfolded}
use Rattle.tt_proof.specs.ProofClaim.{first_turn_of}
use Rattle.tt_parts.specs.SharedParts.{IsOutlineAnswer}
use Rattle.tt_proof.specs.Strategy.{depth}
use Rattle.tt_proof.specs.Wins.{WinsOrLives}

-- the bytes are a certificate with shared parts: with its names' trees put in it wins for the side from the state, or ends at life,
-- has at most so many turns on each way down, and begins with that turn; each of its parts fits where play reaches it
pub record IsWinningSharedCertificate (f : Frame) (s : State) (side : Side) (first : Option Turn) (most : ℕ) (bytes : List ℕ) : Type 0 where
  pub outline : Outline
  pub is : IsSharedCertificate f.size bytes side outline
  pub wins : WinsOrLives side f (unfolded [] outline) s
  pub fits : IsOutlineAnswer side f outline s None → ⊥
  pub shallow : depth (unfolded [] outline) ≤ most
  pub begins : first ≡ first_turn_of (unfolded [] outline)
