use Rattle.tt_game.specs.Game.{after, history, colouring_after_play}
use Rattle.std.proofs.Common.{[]}
use Rattle.tt_game.specs.declared.turns.Turn.TheVariants.{Play}
use Rattle.tt_proof.proofs.NeedLemmas.{needed_less, needed_more}
use Rattle.tt_proof.proofs.laws.needs_lose_played_colouring.Goals as goal

pub returns : goal.returns
returns c =
    λ f u s p x. (
      λ m. needed_less f (history s) (colouring_after_play f s p) u [] (after f s (Play p)) x m,
      λ m. needed_more f (history s) (colouring_after_play f s p) u [] (after f s (Play p)) x m.0 m.1,
    )
