use Rattle.std.proofs.Common.{◌≡◌, ◌↔◌, ◌≤◌, ℕ, drop}
use Rattle.tt_proof.specs.declared.tree.TheConstants.{MOST_DEPTH}
use Rattle.tt_proof.specs.Strategy.{entries_of_reply, AreInOrder, depth_of_entries}
use Rattle.tt_proof.specs.EndRules.{at_win}
use Rattle.tt_proof.specs.inside.Replaying.{LegalWin}
use Rattle.tt_proof.proofs.replays.+replay.Given as goal

abbrev pub invariant-replay_entries-loop-turn : goal.invariant-replay_entries-loop-turn
invariant-replay_entries-loop-turn l = record {
  same : l.line ≡ l.fn.line;
  wins : LegalWin at_win l.s l.line.frame l.line.state (entries_of_reply l.list) ↔ LegalWin at_win l.s l.line.frame l.line.state (entries_of_reply (drop l.turn-index l.list));
  depth : depth_of_entries (entries_of_reply (drop l.turn-index l.list)) ≤ MOST_DEPTH;
  in_order : (least : ℕ) × AreInOrder l.line.frame.size least (entries_of_reply (drop l.turn-index l.list));
}
