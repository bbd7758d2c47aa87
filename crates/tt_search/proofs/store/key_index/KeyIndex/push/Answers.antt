use Rattle.std.proofs.Common.{rules, subst, sym, ◌∙◌}
use Rattle.tt_game.specs.BloomFilter.{MayHold}
use Rattle.tt_search.specs.inside.Buckets.{MayHoldHashes}
use Rattle.tt_search.proofs.Buckets.{linked_more, seen_more}
use Rattle.tt_search.proofs.store.key_index.KeyIndex.push.Goals as goal

pub invariant_of-self : goal.invariant_of-self
invariant_of-self c = record {
  sized = c.link_slot.ensures.sized;
  linked = search rules;
  filter = subst (MayHoldHashes c.add.new.self) (sym c.push_reserved.ensures.items)
      (seen_more c.self.inside.filter c.add.new.self c.self.inside.hashes.items c.key_hash-hash.result c.self.invariant.filter
      (subst (MayHold c.add.new.self) c.filter_bit.ensures c.add.ensures.here) c.add.ensures.still);
}

pub link_slot-requires-clause-linked : goal.link_slot-requires-clause-linked
link_slot-requires-clause-linked c =
    linked_more c.self.inside.heads.items c.self.inside.before.items c.self.inside.hashes.items _ _ c.key_hash-hash.result c.len-slot.result c.self.invariant.sized.one_each
    c.push_reserved-2.ensures.items c.push_reserved.ensures.items (c.len-slot.ensures ∙ c.self.inside.hashes.ok.0) c.self.invariant.linked
