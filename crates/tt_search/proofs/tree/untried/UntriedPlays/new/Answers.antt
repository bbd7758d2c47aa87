use Rattle.std.proofs.Common.{◌∙◌, sym, ap, length, arith}
use Rattle.tt_sgf.specs.MachineWords.{bit_in}
use Rattle.tt_sgf.specs.declared.size.TheConstants.{MOST_POINTS}
use Rattle.tt_search.proofs.Untried.{none_yet, skipped}
use Rattle.tt_search.proofs.tree.untried.UntriedPlays.new.Goals as goal

pub invariant_of-result : goal.invariant_of-result
invariant_of-result c =
    let has = bit_in c.none.result.words in
    sym (ap length (skipped has 0 MOST_POINTS (omega arith) (λ q _ l. c.none.ensures q (omega (arith, l))) ∙ none_yet has))

pub returns : goal.returns
returns c =
    let has = bit_in c.none.result.words in
    skipped has 0 MOST_POINTS (omega arith) (λ q _ l. c.none.ensures q (omega (arith, l))) ∙ none_yet has
