use Rattle.std.proofs.Common.{◌≡◌, ◌++◌, ℕ, drop}
use Rattle.tt_proof.specs.Strategy.{entries_of_reply, AreInOrder}
use Rattle.tt_proof.specs.CertificateText.{entries_text}
use Rattle.tt_proof.proofs.certificate_write.+put.Given as goal

abbrev pub invariant-put_entries-loop-turn : goal.invariant-put_entries-loop-turn
invariant-put_entries-loop-turn l = record {
  text : l.out.items ++ entries_text l.size (entries_of_reply (drop l.turn-index l.list)) ≡ l.fn.out.items ++ entries_text l.size (entries_of_reply l.list);
  in_order : (least : ℕ) × AreInOrder l.size least (entries_of_reply (drop l.turn-index l.list));
}
