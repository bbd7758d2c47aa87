use Rattle.std.proofs.Common.{rules}
use Rattle.tt_search.specs.inside.Buckets.{bucket_of_hash}
use Rattle.tt_search.proofs.store.key_index.bucket_of.Goals as goal

pub returns-clause-bucket : goal.returns-clause-bucket
unfolding bucket_of_hash
returns-clause-bucket c = search rules

pub returns-clause-within : goal.returns-clause-within
unfolding bucket_of_hash
returns-clause-within c = search rules
