use Rattle.std.proofs.Common.{◌+◌, ap, sym, subst, ◌∙◌, count_by, arith}
use Rattle.std.specs.List.{range_with_len}
use Rattle.tt_sgf.specs.Sizes.{point_count}
use Rattle.tt_sgf.specs.MachineWords.{bit_in}
use Rattle.tt_board.specs.Around.{AreOn}
use Rattle.tt_board.proofs.AreaLemmas.{counted_more, counted_few, counted_all}
use Rattle.tt_board.proofs.area.count.Goals as goal

pub overflow_add-total : goal.overflow_add-total
overflow_add-total c =
    omega (arith, c.loop-k.invariant, counted_few c.words-words.result (point_count c.args.size) c.loop-k.k, c.ones-total.ensures.small, c.point_count.ensures.most)

pub loop-k-preserved : goal.loop-k-preserved
loop-k-preserved c =
    let on : AreOn c.args.size c.words-words.result = subst (AreOn c.args.size) (sym c.words-words.ensures) c.requires in
    ap (λ n. c.loop-k.total + n) c.ones-total.ensures.value
    ∙ counted_more c.words-words.result (point_count c.args.size) on c.loop-k.k c.loop-k.total (omega (arith, c.point_count.ensures.most)) c.ones-total.ensures.fits c.loop-k.invariant

pub returns : goal.returns
returns c =
    c.loop-k.invariant ∙ counted_all c.words-words.result (point_count c.args.size) c.loop-k.k (omega (arith, c.point_count.ensures.value, c.loop-k-test.false))
    ∙ ap (λ ws. count_by (bit_in ws) (range_with_len 0 (point_count c.args.size))) c.words-words.ensures
