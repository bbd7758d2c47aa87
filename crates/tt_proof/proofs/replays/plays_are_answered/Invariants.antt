use Rattle.std.proofs.Common.{ℕ, ◌<◌, ◌≤◌, ◌-◌, length}
use Rattle.tt_sgf.specs.declared.size.TheConstants.{MOST_POINTS}
use Rattle.tt_proof.specs.Strategy.{entries_of_reply}
use Rattle.tt_proof.specs.inside.Replaying.{HasEntry}
use Rattle.tt_game.specs.declared.turns.Turn.TheVariants.{Play}
use Rattle.tt_game.specs.Game.{IsLegal}
use Rattle.tt_proof.proofs.replays.plays_are_answered.Given as goal

abbrev pub invariant-loop-p : goal.invariant-loop-p
invariant-loop-p l = record {
  within : l.index ≤ length l.list;
  below : (q : ℕ) → q < l.from → IsLegal l.line.frame l.line.state (Play q) → HasEntry (entries_of_reply l.list) (Play q);
}

abbrev pub decreases-loop-p : goal.decreases-loop-p
decreases-loop-p l = MOST_POINTS - l.from
