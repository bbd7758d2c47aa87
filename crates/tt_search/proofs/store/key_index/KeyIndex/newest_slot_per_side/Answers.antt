use Rattle.std.proofs.Common.{rules}
use Rattle.tt_game.specs.declared.frame.Side.TheVariants.{Attacker, Defender}
use Rattle.tt_search.proofs.Buckets.{newest_unmarked}
use Rattle.tt_search.proofs.store.key_index.KeyIndex.newest_slot_per_side.Goals as goal

pub returns-then-last-eq0-clause-attacker : goal.returns-then-last-eq0-clause-attacker
returns-then-last-eq0-clause-attacker g c =
    let hash = c.key_hash-hash.ensures in
    record {
      newest = newest_unmarked c.args.line.now Attacker _ _ _ _ c.requires hash c.last_with_hash_plus_one-last.ensures.unmarked c.if-last-eq0.true;
      within = search rules;
      found = search rules;
    }

pub returns-then-last-eq0-clause-defender : goal.returns-then-last-eq0-clause-defender
returns-then-last-eq0-clause-defender g c =
    let hash = c.key_hash-hash.ensures in
    record {
      newest = newest_unmarked c.args.line.now Defender _ _ _ _ c.requires hash c.last_with_hash_plus_one-last.ensures.unmarked c.if-last-eq0.true;
      within = search rules;
      found = search rules;
    }
