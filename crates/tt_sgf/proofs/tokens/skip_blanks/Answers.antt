use Rattle.std.proofs.Common.{sym, ◌∙◌, ap}
use Rattle.std.proofs.lemmas.List.{nil_from_length}
use Rattle.tt_sgf.specs.Values.{after_blanks}
use Rattle.tt_sgf.proofs.TokenLemmas.{after_blanks-blank, after_blanks-other, after_blanks-nil}
use Rattle.tt_sgf.proofs.tokens.skip_blanks.Goals as goal

pub loop-first-preserved : goal.loop-first-preserved
loop-first-preserved c =
    sym (after_blanks-blank c.in-Some.first.now c.in-Some.after.now (sym c.is_blank.ensures ∙ c.if-not-is_blank.false)) ∙ ap after_blanks (sym c.in-Some.ensures.cases.0) ∙ c.loop-first.invariant

pub returns-then-not-is_blank : goal.returns-then-not-is_blank
returns-then-not-is_blank c =
    let e = c.in-Some.ensures.cases.0 in
    e ∙ sym (after_blanks-other c.in-Some.first.now c.in-Some.after.now (sym c.is_blank.ensures ∙ c.if-not-is_blank.true)) ∙ ap after_blanks (sym e) ∙ c.loop-first.invariant

pub returns-in_default : goal.returns-in_default
returns-in_default c =
    let e = nil_from_length c.loop-first.rest.now c.in_default.ensures.cases in
    e ∙ sym after_blanks-nil ∙ ap after_blanks (sym e) ∙ c.loop-first.invariant
