use Rattle.std.proofs.Common.{◌≡◌, ◌≤◌, ℕ, drop, take, map}
use Rattle.tt_proof.specs.Strategy.{reply, strategy_of, entries_of, entries_of_reply, AreInOrder, depth_of_entries}
use Rattle.tt_proof.specs.KeptFootprints.{IsFootprint}
use Rattle.tt_proof.proofs.footprints.+collect.Given as goal

abbrev pub invariant-footprint_of_reply-loop-turn : goal.invariant-footprint_of_reply-loop-turn
invariant-footprint_of_reply-loop-turn l = record {
  same : l.line ≡ l.fn.line;
  joined : IsFootprint l.line.frame l.line.state (reply (entries_of (map (λ e. (e.0, strategy_of e.1)) (take l.turn-index l.list)))) l.footprint;
  depth : depth_of_entries (entries_of_reply (drop l.turn-index l.list)) ≤ 512;
  in_order : (least : ℕ) × AreInOrder l.line.frame.size least (entries_of_reply (drop l.turn-index l.list));
}
