use Rattle.std.proofs.Common.{ℕ, ◌≡◌, ◌≢◌, ◌==◌, length, inl, inr, arith, rules}
use Rattle.tt_board.specs.declared.counted.play_kind.TheConstants.{OFF_BOARD_NAME}
use Rattle.tt_board.specs.inside.Chains.{name_at}
use Rattle.tt_sgf.specs.laws.SizeLaws.{point_count_is_bounded}
use Rattle.tt_board.proofs.NameLemmas.{beside_counted}
use Rattle.tt_board.proofs.PlayKindLemmas.{one_touches, bare_index, roots_below}
use Rattle.tt_board.proofs.counted.chain_counts.ChainCounts.names_beside.Goals as goal

pub name_there-above-requires : goal.name_there-above-requires
name_there-above-requires c = λ q is. let n = (c.neighbours_of-near.ensures.all q).0 (inl is) in omega (arith, n.0, point_count_is_bounded c.args.size)

pub name_there-left-requires : goal.name_there-left-requires
name_there-left-requires c = λ q is. let n = (c.neighbours_of-near.ensures.all q).0 (inr (inl is)) in omega (arith, n.0, point_count_is_bounded c.args.size)

pub name_there-right-requires : goal.name_there-right-requires
name_there-right-requires c = λ q is. let n = (c.neighbours_of-near.ensures.all q).0 (inr (inr (inl is))) in omega (arith, n.0, point_count_is_bounded c.args.size)

pub name_there-below-requires : goal.name_there-below-requires
name_there-below-requires c = λ q is. let n = (c.neighbours_of-near.ensures.all q).0 (inr (inr (inr is))) in omega (arith, n.0, point_count_is_bounded c.args.size)

pub returns : goal.returns
returns c =
    let s = c.args.size in let ns = c.args.self.now.names in let p = c.args.p in let all = c.neighbours_of-near.ensures.all in
    let h1 = c.name_there-above.ensures in let h2 = c.name_there-left.ensures in let h3 = c.name_there-right.ensures in let h4 = c.name_there-below.ensures in
    let sum = beside_counted s (λ q. name_at ns q == 0) p _ _ _ _ all c.neighbours_of-near.ensures.once in
    let touching = λ (m : ℕ) (apart : m ≢ OFF_BOARD_NAME). one_touches s ns p m _ _ _ _ _ _ _ _ all h1 h2 h3 h4 apart in
    let wide : length ns ≡ 361 = search rules in
    record {
      touching = touching;
      roots = λ m one. roots_below s ns p m wide c.requires.counted.rooted (λ apart. (touching m apart).0 one);
      bare = omega (
        arith,
        sum,
        bare_index ns _ _ h1,
        bare_index ns _ _ h2,
        bare_index ns _ _ h3,
        bare_index ns _ _ h4,
        c.one_if_empty.ensures,
        c.one_if_empty-2.ensures,
        c.one_if_empty-3.ensures,
        c.one_if_empty-4.ensures,
      );
    }
