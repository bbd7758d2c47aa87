use Rattle.std.proofs.Common.{◌≡◌, vec_len, vec_capacity}
use Rattle.tt_search.specs.inside.Buckets.{AreLongEnough, AreBuckets}
use Rattle.tt_search.proofs.store.key_index.link_all_slots.Given as goal

abbrev pub invariant-loop-slot : goal.invariant-loop-slot
invariant-loop-slot l = AreLongEnough l.heads.items l.before.items l.hashes.items × AreBuckets l.heads.items l.before.items l.hashes.items l.slot × (vec_len l.heads ≡ vec_len l.fn.heads)
    × (vec_capacity l.before ≡ vec_capacity l.fn.before)
