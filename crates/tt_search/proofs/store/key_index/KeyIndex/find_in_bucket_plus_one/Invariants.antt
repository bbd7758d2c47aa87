use Rattle.std.proofs.Common.{◌≡◌, ◌-◌, ◌<◌, ◌≤◌, length, get_or}
use Rattle.tt_search.specs.inside.Buckets.{bucket_of_hash, NoHashFrom}
use Rattle.tt_search.proofs.store.key_index.KeyIndex.find_in_bucket_plus_one.Given as goal

abbrev pub invariant-loop-next : goal.invariant-loop-next
invariant-loop-next l = record {
  low : l.next ≤ length l.self-inside.hashes.items;
  none : NoHashFrom l.self-inside.hashes.items l.hash l.next;
  inside : 0 < l.next → bucket_of_hash (get_or l.self-inside.hashes.items (l.next - 1) 0) (length l.self-inside.heads.items) ≡ bucket_of_hash l.hash (length l.self-inside.heads.items);
}

abbrev pub decreases-loop-next : goal.decreases-loop-next
decreases-loop-next l = l.next
