use Rattle.std.proofs.Common.{◌≡◌, ◌<◌, ◌+◌, length, map, arith, rules, sym, ◌∙◌}
use Rattle.std.proofs.lemmas.List.{length-map}
use Rattle.tt_board.specs.inside.Chains.{name_at, root_of, renamed, liberty_count}
use Rattle.tt_board.proofs.NameLemmas.{liberty_count_le}
use Rattle.tt_sgf.specs.laws.SizeLaws.{point_count_is_bounded}
use Rattle.tt_board.proofs.JoinLemmas.{joined_stones, joined_liberties, counted_joined, stone_count_le}
use Rattle.tt_board.proofs.counted.chain_counts.ChainCounts.absorb.Goals as goal

pub overflow_add-self : goal.overflow_add-self
overflow_add-self c =
    let s = c.args.size in let k = c.args.self.now in let a = c.args.from in let b = c.args.to in let two = c.requires.chains in let more = c.rename_chain-gained in
    let gain : liberty_count s (map (renamed a b) k.names) b ≡ liberty_count s k.names b + more.result = rw (← more.ensures.renamed) more.ensures.gained in
    let h = joined_liberties s k a b more.result c.requires.counted two.living.0 two.living.1 two.apart two.rooted.0 two.rooted.1 gain in
    let small : name_at k.liberties (root_of b) + more.result < 65536 = omega (arith, h, liberty_count_le s (map (renamed a b) k.names) b, point_count_is_bounded s) in
    rw c.root_of-root.ensures.value (search rules)

pub overflow_add-self-2 : goal.overflow_add-self-2
overflow_add-self-2 c =
    let s = c.args.size in let k = c.args.self.now in let a = c.args.from in let b = c.args.to in let two = c.requires.chains in let more = c.rename_chain-gained in
    let gain : liberty_count s (map (renamed a b) k.names) b ≡ liberty_count s k.names b + more.result = rw (← more.ensures.renamed) more.ensures.gained in
    let h = joined_stones s k a b more.result c.requires.counted two.living.0 two.living.1 two.apart two.rooted.0 two.rooted.1 gain in
    let wide : length k.names ≡ 361 = search rules in
    let small : name_at k.stones (root_of b) + name_at k.stones (root_of a) < 65536 = omega (arith, h, stone_count_le (map (renamed a b) k.names) b, length-map k.names (renamed a b), wide) in
    rw (c.root_of-root.ensures.value, c.root_of.ensures.value) (search rules)

pub returns-clause-still_counted : goal.returns-clause-still_counted
returns-clause-still_counted c =
    let s = c.args.size in let k = c.args.self.now in let a = c.args.from in let b = c.args.to in let two = c.requires.chains in let more = c.rename_chain-gained in
    let gain : liberty_count s (map (renamed a b) k.names) b ≡ liberty_count s k.names b + more.result = rw (← more.ensures.renamed) more.ensures.gained in
    let wide : length k.names ≡ 361 = search rules in let few : length k.stones ≡ 361 = search rules in let also : length k.liberties ≡ 361 = search rules in
    rw (more.ensures.renamed, c.root_of-root.ensures.value, c.root_of.ensures.value)
    (counted_joined s k a b more.result c.requires.counted two.living.0 two.living.1 two.apart two.rooted.0 two.rooted.1 gain (few ∙ sym wide) (also ∙ sym wide))
