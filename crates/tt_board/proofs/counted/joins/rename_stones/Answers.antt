use Rattle.std.proofs.Common.{◌≡◌, ◌<◌, ◌+◌, set, length, arith, rules, inl, inr, sym, ap, ◌∙◌}
use Rattle.std.proofs.lemmas.Bool.{cases_lt, cases_eq}
use Rattle.std.proofs.lemmas.List.{length-set, get_or-set_same, get_or-set_other}
use Rattle.tt_sgf.specs.Sizes.{point_count}
use Rattle.tt_board.specs.inside.Chains.{name_at, stone_count}
use Rattle.tt_board.proofs.NameLemmas.{count_joined, liberty_count_le}
use Rattle.tt_sgf.specs.laws.SizeLaws.{point_count_is_bounded}
use Rattle.tt_board.proofs.JoinLemmas.{partly_none, partly_more, partly_whole, partly_on_board, some_stone, stones_fewer, none_stones}
use Rattle.tt_board.proofs.counted.joins.rename_stones.Goals as goal

pub loop-init : goal.loop-init
loop-init c = record {
  wide = search rules;
  partly = partly_none c.args.from c.args.to c.args.names.now;
  done = λ k h. absurd (omega arith);
  left = omega (arith, c.requires.chain.count);
  gained = omega arith;
}

pub next_named-p-requires : goal.next_named-p-requires
next_named-p-requires c =
    let i = c.loop.invariant in
    let t = some_stone c.loop.names c.args.from (omega (arith, i.left, c.loop-test.true)) in
    (t.0, (elim (cases_lt t.0 c.loop.next) [ inl before ↦ absurd (i.done t.0 before t.2) | inr from ↦ from ]), omega (arith, t.1, i.wide), t.2)

pub count_new_liberties-gained-requires : goal.count_new_liberties-gained-requires
count_new_liberties-gained-requires c =
    partly_on_board c.args.size c.args.from c.args.to c.args.names.now c.loop.names c.next_named-p.result c.requires.chain.ends c.requires.chain.living c.loop.invariant.partly
    c.next_named-p.ensures.found.1

pub overflow_add-gained : goal.overflow_add-gained
overflow_add-gained c =
    let i = c.loop.invariant in
    let ns = c.loop.names in let p = c.next_named-p.result in let found = c.next_named-p.ensures.found in let in_p : p < length ns = omega (arith, found.0, i.wide) in
    let few = point_count_is_bounded c.args.size in
    let on : p < point_count c.args.size
    = partly_on_board c.args.size c.args.from c.args.to c.args.names.now ns p c.requires.chain.ends c.requires.chain.living i.partly found.1 in
    let joined = count_joined c.args.size ns p c.args.to on in_p (λ e. c.requires.chain.living (sym found.1 ∙ e)) c.requires.other.0 (λ e. c.requires.other.1 (sym found.1 ∙ e)) in
    let most = liberty_count_le c.args.size (set ns p c.args.to) c.args.to in
    let small : c.loop.gained + c.count_new_liberties-gained.result < 65536 = omega (arith, few, joined, most, i.gained, c.count_new_liberties-gained.ensures) in
    search rules

pub loop-preserved : goal.loop-preserved
loop-preserved c =
    let i = c.loop.invariant in
    let ns = c.loop.names in let p = c.next_named-p.result in let found = c.next_named-p.ensures.found in let a = c.args.from in let b = c.args.to in
    let in_p : p < length ns = omega (arith, found.0, i.wide) in
    let on : p < point_count c.args.size = partly_on_board c.args.size a b c.args.names.now ns p c.requires.chain.ends c.requires.chain.living i.partly found.1 in
    let joined = count_joined c.args.size ns p b on in_p (λ e. c.requires.chain.living (sym found.1 ∙ e)) c.requires.other.0 (λ e. c.requires.other.1 (sym found.1 ∙ e)) in
    let fewer = stones_fewer ns p b a in_p found.1 (λ e. c.requires.other.1 (sym e)) in
    record {
      wide = length-set ns p b ∙ i.wide;
      partly = partly_more a b c.args.names.now ns p in_p found.1 i.partly;
      done = λ k below. elim (cases_eq k p) [
        | inl same ↦ λ e. c.requires.other.1 (sym e ∙ ap (name_at (set ns p b)) same ∙ get_or-set_same ns p b 0 in_p)
        | inr apart ↦ λ e.
            let was : name_at ns k ≡ a = sym (get_or-set_other ns p k b 0 apart) ∙ e in
            elim (cases_lt k c.loop.next) [ inl before ↦ i.done k before was | inr from ↦ c.next_named-p.ensures.first k from (omega arith) was ]
      ];
      left = omega (arith, fewer, i.left);
      gained = omega (arith, joined, i.gained, c.count_new_liberties-gained.ensures);
    }

pub returns-clause-renamed : goal.returns-clause-renamed
returns-clause-renamed c =
    let i = c.loop.invariant in
    let none : stone_count c.loop.names c.args.from ≡ 0 = omega (arith, i.left, c.loop-test.false) in
    let wide : length c.args.names.now ≡ 361 = search rules in
    partly_whole c.args.from c.args.to c.args.names.now c.loop.names c.requires.chain.living (i.wide ∙ sym wide) i.partly
    (λ k below. none_stones c.loop.names c.args.from none k (omega (arith, below, i.wide, wide)))

pub returns-clause-gained : goal.returns-clause-gained
returns-clause-gained c = c.loop.invariant.gained
