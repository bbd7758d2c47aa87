use Rattle.std.proofs.Common.{◌≡◌, ℕ, drop}
use Rattle.tt_proof.specs.Strategy.{entries_of_reply, AreInOrder}
use Rattle.tt_parts.proofs.outline_write.draft.+walk.Given as goal

abbrev pub invariant-walk_reply-loop-turn : goal.invariant-walk_reply-loop-turn
invariant-walk_reply-loop-turn l = record {
  same : l.line ≡ l.fn.line;
  in_order : (least : ℕ) × AreInOrder l.line.frame.size least (entries_of_reply (drop l.turn-index l.list));
}
