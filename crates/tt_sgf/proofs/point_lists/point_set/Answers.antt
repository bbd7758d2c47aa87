use Rattle.std.proofs.Common.{◌≡◌, true, take, sym, ap, ◌∙◌}
use Rattle.std.proofs.lemmas.List.{take_all}
use Rattle.std.specs.List.{list_any, list_all}
use Rattle.std.specs.Ordering.{nat_cmp}
use Rattle.std.specs.FinSet as set
use Rattle.tt_sgf.specs.PointLists.{covers, rectangle_of_text, is_entry}
use Rattle.tt_sgf.specs.Values.{trimmed}
use Rattle.tt_sgf.proofs.EntryLemmas.{any_takes, any_again, entries_are, not_entries, set_some, set_none}
use Rattle.tt_sgf.proofs.point_lists.point_set.Goals as goal

pub loop-v-init : goal.loop-v-init
loop-v-init c = ((λ p. ap (λ s. set.contains s p) c.empty-points.ensures ∙ set.contains-empty nat_cmp p), λ _. true)

pub returns-in_default-clause-bad : goal.returns-in_default-clause-bad
returns-in_default-clause-bad c =
    let text = c.trim.ensures ∙ ap trimmed (c.as_slice.ensures ∙ c.v-item.is) in
    not_entries c.args.size c.args.values.now c.loop-v.v-index c.v-item.result c.loop-v-test.true (ap (rectangle_of_text c.args.size) (sym text) ∙ sym c.read_rectangle.ensures ∙ c.in_default.is)

pub returns-clause-covered : goal.returns-clause-covered
returns-clause-covered c = λ p.
    let all : take c.loop-v.v-index c.args.values.now ≡ c.args.values.now = take_all _ _ c.loop-v-test.false in
    let is = c.loop-v.invariant.0 p ∙ ap (list_any (λ v. covers c.args.size v p)) all in
    ((λ h. any_takes c.args.size c.args.values.now p (sym is ∙ h)), λ h. is ∙ any_again c.args.size c.args.values.now p h)

pub returns-clause-ok : goal.returns-clause-ok
returns-clause-ok c =
    let all : take c.loop-v.v-index c.args.values.now ≡ c.args.values.now = take_all _ _ c.loop-v-test.false in
    entries_are c.args.size c.args.values.now (ap (list_all (is_entry c.args.size)) (sym all) ∙ c.loop-v.invariant.1)

pub returns-in_default-clause-reads : goal.returns-in_default-clause-reads
returns-in_default-clause-reads c =
    let text = c.trim.ensures ∙ ap trimmed (c.as_slice.ensures ∙ c.v-item.is) in
    set_none c.args.size c.args.values.now c.loop-v.v-index c.v-item.result c.loop-v-test.true (ap (rectangle_of_text c.args.size) (sym text) ∙ sym c.read_rectangle.ensures ∙ c.in_default.is)

pub returns-clause-reads : goal.returns-clause-reads
returns-clause-reads c =
    let all : take c.loop-v.v-index c.args.values.now ≡ c.args.values.now = take_all _ _ c.loop-v-test.false in
    set_some c.args.size c.args.values.now c.loop-v.points (λ p. c.loop-v.invariant.0 p ∙ ap (list_any (λ v. covers c.args.size v p)) all)
    (ap (list_all (is_entry c.args.size)) (sym all) ∙ c.loop-v.invariant.1)
