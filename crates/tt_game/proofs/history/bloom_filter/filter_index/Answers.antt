use Rattle.std.proofs.Common.{rules}
use Rattle.tt_game.specs.BloomFilter.{filter_index}
use Rattle.tt_game.proofs.history.bloom_filter.filter_index.Goals as goal

pub returns : goal.returns
unfolding filter_index
returns c = search rules
