use Rattle.std.proofs.Common.{rules, ◌≡◌, ◌∙◌, ◌<◌, ◌≤◌, ◌+◌, ◌∷◌, sym, ap, refl, subst, drop, get_or, length, drop-cons, add-one, None}
use Rattle.std.proofs.Math.ListN.{drop_of_length-le}
use Rattle.tt_parts.specs.Outlines.{branches_of_reply}
use Rattle.tt_parts.specs.SharedParts.{NamedFootprints, with_unreached_branch_names, with_named_footprint}
use Rattle.tt_proof.proofs.ResultLemmas.{on_ok}
use Rattle.tt_parts.proofs.OutlineLemmas.{outline_of_done, outline_of_pick, outline_of_reply, outline_of_part}
use Rattle.tt_parts.proofs.OutlineReplayLemmas.{drop_none}
use Rattle.tt_parts.proofs.outline_replay.+skip.Goals as goal

pub skip-returns-in-Done : goal.skip-returns-in-Done
skip-returns-in-Done t c = rw (c.in-Done.is, outline_of_done) refl

pub skip-returns-in-Part : goal.skip-returns-in-Part
skip-returns-in-Part t c = rw (c.in-Part.is, outline_of_part) refl

pub skip-returns-in_ok-skip-in-Pick : goal.skip-returns-in_ok-skip-in-Pick
skip-returns-in_ok-skip-in-Pick t c =
    rw (c.in-Pick.is, outline_of_pick, ← c.deref.ensures)
    (on_ok c.put_unreached_if_named.result _ _ (λ g. g ∙ ap (λ (ns : NamedFootprints). with_named_footprint c.in-Pick.named None ns) c.in_ok-skip-in-Pick.ensures) c.put_unreached_if_named.ensures)

pub skip-returns-in_ok-skip_branches-in-Reply : goal.skip-returns-in_ok-skip_branches-in-Reply
skip-returns-in_ok-skip_branches-in-Reply t c =
    rw (c.in-Reply.is, outline_of_reply, ← c.deref-in-Reply.ensures, ← c.deref-in-Reply-2.ensures.value)
    (on_ok c.put_unreached_if_named-in-Reply.result _ _ (λ g. g ∙ ap (λ (ns : NamedFootprints). with_named_footprint c.in-Reply.named None ns) c.in_ok-skip_branches-in-Reply.ensures)
    c.put_unreached_if_named-in-Reply.ensures)

pub skip_branches-loop-child-init : goal.skip_branches-loop-child-init
skip_branches-loop-child-init t c = ap (λ xs. with_unreached_branch_names c.args.names.now.items (branches_of_reply xs)) (drop_none c.args.list.now)

pub skip_branches-loop-child-preserved : goal.skip_branches-loop-child-preserved
skip_branches-loop-child-preserved t c =
    let list = c.args.list.now in
    let n = c.loop-child.child-index in
    let item = c.loop-child-item.result in
    let lt : n < length list = search rules in
    let is : item ≡ get_or list n item = search rules in
    let rest : drop n list ≡ item ∷ drop (n + 1) list =
    drop-cons list n item lt ∙ ap (λ m. get_or list n item ∷ drop m list) (sym (add-one n)) ∙ ap (λ e. e ∷ drop (n + 1) list) (sym is) in
    let whole = with_unreached_branch_names c.args.names.now.items (branches_of_reply list) in
    ap (λ (ns : NamedFootprints). with_unreached_branch_names ns (branches_of_reply (drop (n + 1) list))) c.in_ok-skip.ensures
    ∙ subst (λ xs. with_unreached_branch_names c.loop-child.names.items (branches_of_reply xs) ≡ whole) rest c.loop-child.invariant

pub skip_branches-returns : goal.skip_branches-returns
skip_branches-returns t c =
    let list = c.args.list.now in
    let end : length list ≤ c.loop-child.child-index = search rules in
    subst (λ xs. with_unreached_branch_names c.loop-child.names.items (branches_of_reply xs) ≡ with_unreached_branch_names c.args.names.now.items (branches_of_reply list))
    (drop_of_length-le list end) c.loop-child.invariant
