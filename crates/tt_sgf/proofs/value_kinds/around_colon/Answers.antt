use Rattle.std.proofs.Common.{ℕ, ◌+◌, List, Some, ap, sym, ◌∙◌}
use Rattle.std.proofs.lemmas.List.{take_rest}
use Rattle.tt_sgf.proofs.SizeLemmas.{found_before, found_behind, found_none}
use Rattle.tt_sgf.proofs.value_kinds.around_colon.Goals as goal

pub returns-then-b-eq58 : goal.returns-then-b-eq58
returns-then-b-eq58 c =
    let text = c.args.text.now in
    let i = c.loop-i.i in (
      found_before text i c.loop-i-test.true c.loop-i.invariant c.if-b-eq58.true,
      found_behind text i c.loop-i-test.true c.loop-i.invariant c.if-b-eq58.true ∙ ap (λ (x : List ℕ). Some x) (sym (take_rest text (i + 1))),
    )

pub returns : goal.returns
returns c = found_none c.args.text.now c.loop-i.i c.loop-i-test.false c.loop-i.invariant
