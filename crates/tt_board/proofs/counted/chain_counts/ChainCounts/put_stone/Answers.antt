use Rattle.std.proofs.Common.{◌≡◌, ◌≢◌, Some, set, length, arith, rules, ◌∙◌}
use Rattle.tt_sgf.specs.laws.SizeLaws.{point_count_is_bounded}
use Rattle.tt_board.specs.declared.counted.play_kind.TheConstants.{OFF_BOARD_NAME}
use Rattle.tt_board.proofs.JoinLemmas.{roots_apart}
use Rattle.tt_board.proofs.LinkLemmas.{bare_named}
use Rattle.tt_board.proofs.NameLemmas.{at_p, near_off}
use Rattle.tt_board.proofs.PlacedLemmas.{but_placed}
use Rattle.tt_board.proofs.StartLemmas.{touch_rooted, some_liberty, counted_started}
use Rattle.tt_board.proofs.counted.chain_counts.ChainCounts.put_stone.Goals as goal

pub take_liberty_beside-requires-clause-in_range : goal.take_liberty_beside-requires-clause-in_range
take_liberty_beside-requires-clause-in_range c = λ m one. let most : length c.args.self.now.liberties ≡ 361 = search rules in omega (arith, c.requires.near.roots m one, most)

pub take_liberty_beside-requires-clause-apart : goal.take_liberty_beside-requires-clause-apart
take_liberty_beside-requires-clause-apart c = λ m k one_m one_k some_m there_m some_k there_k apart.
    let s = c.args.size in let ns = c.args.self.now.names in let p = c.args.p in let rooted = c.requires.counted.rooted in
    roots_apart ns m k (touch_rooted s ns p rooted m ((c.requires.near.touching m there_m).0 one_m) some_m) (touch_rooted s ns p rooted k ((c.requires.near.touching k there_k).0 one_k) some_k) apart

pub take_liberty_beside-requires-clause-some : goal.take_liberty_beside-requires-clause-some
take_liberty_beside-requires-clause-some c = λ m one some there.
    let b = c.args.self.now in let p = c.args.p in let few = point_count_is_bounded c.args.size in
    let wide : length b.names ≡ 361 = search rules in let also : length b.stones ≡ 361 = search rules in
    some_liberty c.args.size b p c.new_name-name.result c.requires.on_board (omega (arith, few, wide)) (omega (arith, few, also)) c.requires.free
    (λ z. omega (arith, z, c.new_name-name.ensures.living)) c.new_name-name.ensures.root c.requires.counted m some ((c.requires.near.touching m there).0 one)

pub join_beside-requires-clause-counted : goal.join_beside-requires-clause-counted
join_beside-requires-clause-counted c =
    let s = c.args.size in let b = c.args.self.now in let p = c.args.p in let e = c.new_name-name.result in let few = point_count_is_bounded s in
    let wide : length b.names ≡ 361 = search rules in let also : length b.stones ≡ 361 = search rules in let most : length b.liberties ≡ 361 = search rules in
    counted_started s b p e c.requires.on_board (omega (arith, few, wide)) (omega (arith, few, also)) c.requires.free
    (λ z. omega (arith, z, c.new_name-name.ensures.living)) c.new_name-name.ensures.root c.requires.counted
    c.take_liberty_beside.new.liberties c.args.near.now.empty (omega (arith, few, most, c.take_liberty_beside.auto.liberties))
    ((near_off s b.names p e c.requires.on_board (omega (arith, few, wide)) _ c.requires.near).bare)
    (λ m some t.
    let there : m ≢ OFF_BOARD_NAME = λ is. c.requires.coloured t.0 (t.2.1 ∙ is) in
    c.take_liberty_beside.ensures.fewer m ((c.requires.near.touching m there).1 t) some there)
    (λ r away. c.take_liberty_beside.ensures.same r (λ m one some there. away m some ((c.requires.near.touching m there).0 one)))

pub join_beside-requires-clause-stone : goal.join_beside-requires-clause-stone
join_beside-requires-clause-stone c =
    let b = c.args.self.now in let p = c.args.p in
    let wide : length b.names ≡ 361 = search rules in
    let at = at_p c.args.size b.names p c.new_name-name.result c.requires.on_board (omega (arith, point_count_is_bounded c.args.size, wide)) in
    omega (arith, at, c.new_name-name.ensures.living)

pub join_beside-requires-clause-near : goal.join_beside-requires-clause-near
join_beside-requires-clause-near c =
    let b = c.args.self.now in
    let wide : length b.names ≡ 361 = search rules in
    near_off c.args.size b.names c.args.p c.new_name-name.result c.requires.on_board (omega (arith, point_count_is_bounded c.args.size, wide)) c.args.near.now c.requires.near

pub returns-clause-named : goal.returns-clause-named
returns-clause-named c = λ d fits names.
    let b = c.args.self.now in let p = c.args.p in
    let wide : length b.names ≡ 361 = search rules in
    c.join_beside.ensures.joined (set d p (Some c.args.colour)) (but_placed c.args.size d b.names c.args.colour p c.new_name-name.result c.requires.on_board
    (omega (arith, fits)) (omega (arith, point_count_is_bounded c.args.size, wide)) (bare_named _ _ (names.named p) c.requires.free) names c.requires.counted.rooted
    (λ z. omega (arith, z, c.new_name-name.ensures.living)) c.new_name-name.ensures.root c.new_name-name.ensures.colour)
