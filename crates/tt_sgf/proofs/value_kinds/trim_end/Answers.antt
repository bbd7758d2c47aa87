use Rattle.std.proofs.Common.{sym, ◌∙◌, ap}
use Rattle.std.proofs.lemmas.List.{nil_from_length}
use Rattle.tt_sgf.specs.Values.{without_end}
use Rattle.tt_sgf.proofs.NumberLemmas.{without_end-blank, without_end-other, without_end-nil}
use Rattle.tt_sgf.proofs.value_kinds.trim_end.Goals as goal

pub loop-last-preserved : goal.loop-last-preserved
loop-last-preserved c =
    sym (without_end-blank c.in-Some.before.now c.in-Some.last.now (sym c.is_blank.ensures ∙ c.if-not-is_blank.false)) ∙ ap without_end (sym c.in-Some.ensures.cases.0) ∙ c.loop-last.invariant

pub returns-then-not-is_blank : goal.returns-then-not-is_blank
returns-then-not-is_blank c =
    let e = c.in-Some.ensures.cases.0 in
    e ∙ sym (without_end-other c.in-Some.before.now c.in-Some.last.now (sym c.is_blank.ensures ∙ c.if-not-is_blank.true)) ∙ ap without_end (sym e) ∙ c.loop-last.invariant

pub returns-in_default : goal.returns-in_default
returns-in_default c =
    let e = nil_from_length c.loop-last.rest.now c.in_default.ensures.cases in
    e ∙ sym without_end-nil ∙ ap without_end (sym e) ∙ c.loop-last.invariant
