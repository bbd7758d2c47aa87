use Rattle.std.proofs.Common.{◌∙◌, rules}
use Rattle.tt_sgf.proofs.TokenLemmas.{word_more, word_ends, no_word_at, word_all}
use Rattle.tt_sgf.proofs.tokens.split_identifier.Goals as goal

pub returns-then-not-is_letter_or_digit-clause-word : goal.returns-then-not-is_letter_or_digit-clause-word
returns-then-not-is_letter_or_digit-clause-word c =
    c.split_at.ensures.front
    ∙ (word_ends c.args.bytes.now c.loop-i.i (no_word_at c.args.bytes.now _ c.loop-i-test.true (search rules)) c.loop-i.invariant).0

pub returns-then-not-is_letter_or_digit-clause-rest : goal.returns-then-not-is_letter_or_digit-clause-rest
returns-then-not-is_letter_or_digit-clause-rest c =
    c.split_at.ensures.back
    ∙ (word_ends c.args.bytes.now c.loop-i.i (no_word_at c.args.bytes.now _ c.loop-i-test.true (search rules)) c.loop-i.invariant).1

pub loop-i-preserved : goal.loop-i-preserved
loop-i-preserved c = word_more c.args.bytes.now c.loop-i.i c.loop-i-test.true (search rules) c.loop-i.invariant

pub returns-clause-word : goal.returns-clause-word
returns-clause-word c = c.split_at-2.ensures.front ∙ (word_all c.args.bytes.now c.loop-i.i c.loop-i-test.false c.loop-i.invariant).0

pub returns-clause-rest : goal.returns-clause-rest
returns-clause-rest c = c.split_at-2.ensures.back ∙ (word_all c.args.bytes.now c.loop-i.i c.loop-i-test.false c.loop-i.invariant).1
