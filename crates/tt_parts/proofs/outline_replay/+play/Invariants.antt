use Rattle.std.proofs.Common.{◌≡◌, ℕ, drop}
use Rattle.tt_parts.specs.Outlines.{branches_of_reply, AreBranchesInOrder}
use Rattle.tt_parts.proofs.OutlineReplayLemmas.{Replayed}
use Rattle.tt_parts.proofs.outline_replay.+play.Given as goal

abbrev pub invariant-replay_branches-loop-turn : goal.invariant-replay_branches-loop-turn
invariant-replay_branches-loop-turn l = record {
  same : l.line ≡ l.fn.line;
  orderly : (least : ℕ) × AreBranchesInOrder l.line.frame.size least (branches_of_reply (drop l.turn-index l.list));
  replayed :
      Replayed l.s l.fn.line.frame l.fn.line.state l.fn.names.items (branches_of_reply l.list) (branches_of_reply (drop l.turn-index l.list)) l.names.items l.found;
}
