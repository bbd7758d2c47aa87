-- What the parts of a walk for a footprint find.
use Rattle.std.specs.Prelude.{◌≡◌, ◌↔◌, ◌⊎◌, ℕ, ◌<◌, Option, Contains}
use Rattle.tt_board.specs.Position.{Position, Colouring}
use Rattle.tt_game.specs.Game.{State, colouring_after_play}
use Rattle.tt_game.specs.Line.{IsBarredBySuperko}
use Rattle.tt_game.specs.declared.frame.Frame.{Frame}
use Rattle.tt_game.specs.declared.turns.Turn.{Turn}
use Rattle.tt_game.specs.declared.turns.Turn.TheVariants.{Play, Pass}
use Rattle.tt_proof.specs.declared.board_set_bounds.BoardSetBound.{BoardSetBound}
use Rattle.tt_proof.specs.declared.footprints.Footprint.{Footprint}
use Rattle.tt_proof.specs.BoardSetBounds.{MayContainBoard}
use Rattle.tt_proof.specs.laws.PlayedBoards.{IsPassedUp, IsPlayed}

-- superko bars a play on a point below the number, which would make the colouring
abbrev pub RepeatsBelow : Frame → State → ℕ → Colouring → Type 0
RepeatsBelow f s n c = (p : ℕ) × (p < n) × IsBarredBySuperko f s p × (colouring_after_play f s p ≡ c)

-- what a pick of the turn needs and avoids, by what is needed and avoided behind it
pub record IsPicked (t : Turn) (board : Position) (behind x : Footprint) : Type 0 where
  pub needed : (b : Position) → Contains x.needs b ↔ IsPassedUp t board behind.needs b
  pub avoided : (b : Position) → Contains x.avoids b ↔ (IsPlayed t board b ⊎ Contains behind.avoids b)
  pub met : x.met ≡ behind.met

-- where the turn is a play, the board that it made lies within the bound
abbrev pub IsMadeWithin : Turn → Position → Option BoardSetBound → Type 0
IsMadeWithin Pass b bound = Unit {0}
IsMadeWithin (Play p) b bound = MayContainBoard bound b
