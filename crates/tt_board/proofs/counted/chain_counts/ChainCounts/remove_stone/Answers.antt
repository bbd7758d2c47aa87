use Rattle.std.proofs.Common.{◌≡◌, ◌<◌, length, set, arith, rules}
use Rattle.std.proofs.lemmas.List.{length-set}
use Rattle.tt_sgf.specs.laws.SizeLaws.{point_count_is_bounded}
use Rattle.tt_board.proofs.StartLemmas.{near_below, near_apart}
use Rattle.tt_board.proofs.CaptureLemmas.{only_beside, beside_rooted, few_liberties, counted_released}
use Rattle.tt_board.proofs.counted.chain_counts.ChainCounts.remove_stone.Goals as goal

pub give_liberty-requires-clause-in_range : goal.give_liberty-requires-clause-in_range
give_liberty-requires-clause-in_range c =
    let s = c.args.size in let ns = c.args.self.now.names in let p = c.args.p in let e = c.args.name in let near = c.chains_beside-near.result.items in
    let wide : length ns ≡ 361 = search rules in
    let in_p : p < length ns = omega (arith, point_count_is_bounded s, wide) in
    rw c.as_slice.ensures.value (λ i in'.
    let h = near_below s (set ns p 0) near p
    (beside_rooted s ns p e c.requires.on_board in_p c.requires.living c.requires.stone c.requires.others.rooted near c.chains_beside-near.ensures.beside)
    (only_beside s ns p e c.requires.on_board in_p c.requires.living c.requires.stone c.requires.others.rooted near c.chains_beside-near.ensures.beside) i in' in
    omega (arith, h, length-set ns p 0, wide))

pub give_liberty-requires-clause-apart : goal.give_liberty-requires-clause-apart
give_liberty-requires-clause-apart c =
    let s = c.args.size in let ns = c.args.self.now.names in let p = c.args.p in let e = c.args.name in let near = c.chains_beside-near.result.items in
    let wide : length ns ≡ 361 = search rules in
    let in_p : p < length ns = omega (arith, point_count_is_bounded s, wide) in
    rw c.as_slice.ensures.value (near_apart s (set ns p 0) near p
    (beside_rooted s ns p e c.requires.on_board in_p c.requires.living c.requires.stone c.requires.others.rooted near c.chains_beside-near.ensures.beside)
    (only_beside s ns p e c.requires.on_board in_p c.requires.living c.requires.stone c.requires.others.rooted near c.chains_beside-near.ensures.beside) c.chains_beside-near.ensures.once)

pub give_liberty-requires-clause-small : goal.give_liberty-requires-clause-small
give_liberty-requires-clause-small c =
    let s = c.args.size in let ns = c.args.self.now.names in let p = c.args.p in let e = c.args.name in let near = c.chains_beside-near.result.items in
    let wide : length ns ≡ 361 = search rules in
    let in_p : p < length ns = omega (arith, point_count_is_bounded s, wide) in
    rw c.as_slice.ensures.value (λ i in'.
    let h = few_liberties s ns p e c.requires.on_board in_p c.requires.living c.requires.stone c.requires.others.rooted near c.chains_beside-near.ensures.beside
    c.args.self.now.liberties c.requires.others.counted i in' in
    omega (arith, h, point_count_is_bounded s))

pub returns-clause-still_counted : goal.returns-clause-still_counted
returns-clause-still_counted c =
    let s = c.args.size in let ns = c.args.self.now.names in let p = c.args.p in let e = c.args.name in let near = c.chains_beside-near.result.items in
    let wide : length ns ≡ 361 = search rules in
    let in_p : p < length ns = omega (arith, point_count_is_bounded s, wide) in
    counted_released s ns p e c.requires.on_board in_p c.requires.living c.requires.stone c.requires.others.rooted near c.chains_beside-near.ensures.beside
    c.args.self.now.liberties c.requires.others.counted c.give_liberty.new.liberties
    (rw c.as_slice.ensures.value at c.give_liberty.ensures.more) (rw c.as_slice.ensures.value at c.give_liberty.ensures.same)
