use Rattle.std.proofs.Common.{sym, ◌∙◌, arith, rules}
use Rattle.tt_sgf.proofs.NumberLemmas.{digit_from, some_is, digits_more, digits_past, digits_stop, digits_end}
use Rattle.tt_sgf.proofs.value_kinds.read_digits.Goals as goal

pub returns-then-not-is_digit : goal.returns-then-not-is_digit
returns-then-not-is_digit c =
    let bytes = c.args.bytes.now in
    sym (some_is bytes (search rules) ∙ digits_stop bytes c.loop-b.b-index c.loop-b.value c.loop-b-test.true c.loop-b.invariant.0 (sym c.if-not-is_digit.ensures))

pub overflow_sub-b : goal.overflow_sub-b
overflow_sub-b c = digit_from _ (sym c.if-not-is_digit.ensures)

pub returns-then-value-gt65535 : goal.returns-then-value-gt65535
returns-then-value-gt65535 c =
    let bytes = c.args.bytes.now in
    sym (some_is bytes (search rules) ∙ digits_past bytes c.loop-b.b-index c.loop-b.value c.loop-b-test.true c.loop-b.invariant.0 (sym c.if-not-is_digit.ensures) (omega arith))

pub loop-b-preserved : goal.loop-b-preserved
loop-b-preserved c =
    let bytes = c.args.bytes.now in
    (digits_more bytes c.loop-b.b-index c.loop-b.value c.loop-b-test.true c.loop-b.invariant.0 _ (sym c.if-not-is_digit.ensures) (omega arith) c.if-value-gt65535.false, c.if-value-gt65535.false)

pub returns : goal.returns
returns c =
    let bytes = c.args.bytes.now in
    sym (some_is bytes (search rules) ∙ digits_end bytes c.loop-b.b-index c.loop-b.value c.loop-b-test.false c.loop-b.invariant.0)
