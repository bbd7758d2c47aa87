use Rattle.std.proofs.Common.{◌≡◌, ◌-◌, ◌<◌, ◌≤◌, length, get_or}
use Rattle.tt_search.specs.inside.Buckets.{bucket_of_hash, NoneFrom}
use Rattle.tt_search.proofs.store.key_index.KeyIndex.newest_slot_with_hash.Given as goal

abbrev pub invariant-loop-next : goal.invariant-loop-next
invariant-loop-next g l = record {
  low : l.next ≤ length l.self-inside.hashes.items;
  none : NoneFrom l.line l.side (g.P.ProofList.proofs l.list) l.next;
  inside : 0 < l.next → bucket_of_hash (get_or l.self-inside.hashes.items (l.next - 1) 0) (length l.self-inside.heads.items) ≡ bucket_of_hash l.hash (length l.self-inside.heads.items);
}

abbrev pub decreases-loop-next : goal.decreases-loop-next
decreases-loop-next g l = l.next
