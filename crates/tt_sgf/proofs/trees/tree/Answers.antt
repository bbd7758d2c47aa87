use Rattle.std.proofs.Common.{Some, ap, sym, ◌∙◌, arith}
use Rattle.std.proofs.lemmas.Result.{err_from_is_err_and}
use Rattle.tt_sgf.specs.declared.trees.Event.{Event}
use Rattle.tt_sgf.proofs.EventLemmas.{event_shrinks}
use Rattle.tt_sgf.proofs.WalkLemmas.{far_open, far_close, far_kept, far_aside, far_done, far_none, far_refused_open, far_refused_close, far_refused_item}
use Rattle.tt_sgf.proofs.LoopLemmas.{none_at, same_err}
use Rattle.tt_sgf.proofs.trees.tree.Goals as goal

pub returns-in_err-event-clause-none : goal.returns-in_err-event-clause-none
returns-in_err-event-clause-none c = λ h t q b.
    let p = err_from_is_err_and c.from_residual.result c.from_residual.ensures.1 in
    far_none _ _ _ _ _ _ c.loop-nodes.invariant.0 (none_at _ _ c.in_err-event.ensures (sym p.2 ∙ same_err _ _ _ p.1 h)) t q b

pub returns-in-Opened-clause-none : goal.returns-in-Opened-clause-none
returns-in-Opened-clause-none c = λ h. far_refused_open _ _ _ _ _ _ c.loop-nodes.invariant.0 _
    (c.in_ok-event.ensures ∙ ap (λ (x : Event). Some (x, c.in_ok-event.after.now)) c.in-Open.is) c.in-Opened.is

pub loop-nodes-smaller-in-Open : goal.loop-nodes-smaller-in-Open
loop-nodes-smaller-in-Open c = event_shrinks c.loop-nodes.rest.now c.in_ok-event.event c.in_ok-event.after.now c.in_ok-event.ensures

pub loop-nodes-preserved-in-Open : goal.loop-nodes-preserved-in-Open
loop-nodes-preserved-in-Open c =
    let s = event_shrinks c.loop-nodes.rest.now c.in_ok-event.event c.in_ok-event.after.now c.in_ok-event.ensures in (
      far_open _ _ _ _ _ _ c.loop-nodes.invariant.0 _ (c.in_ok-event.ensures ∙ ap (λ (x : Event). Some (x, c.in_ok-event.after.now)) c.in-Open.is) c.in_default.not-Opened,
      omega (arith, c.loop-nodes.invariant.1),
    )

pub returns-in-Opened-in_tree-clause-none : goal.returns-in-Opened-in_tree-clause-none
returns-in-Opened-in_tree-clause-none c = λ h. far_refused_close _ _ _ _ _ _ c.loop-nodes.invariant.0 _
    (c.in_ok-event.ensures ∙ ap (λ (x : Event). Some (x, c.in_ok-event.after.now)) c.in-Close.is) c.in-Opened-in_tree.is

pub returns-then-enclosing-eq0 : goal.returns-then-enclosing-eq0
returns-then-enclosing-eq0 c = record {
  found = far_done _ _ _ _ _ _ c.loop-nodes.invariant.0 _ (c.in_ok-event.ensures
      ∙ ap (λ (x : Event). Some (x, c.in_ok-event.after.now)) c.in-Close.is) c.in_default-in_tree.not-Opened c.if-enclosing-eq0.true;
  none = λ h. absurd cc;
  short = λ h. absurd cc;
}

pub loop-nodes-smaller-in-Close : goal.loop-nodes-smaller-in-Close
loop-nodes-smaller-in-Close c = event_shrinks c.loop-nodes.rest.now c.in_ok-event.event c.in_ok-event.after.now c.in_ok-event.ensures

pub loop-nodes-preserved-in-Close : goal.loop-nodes-preserved-in-Close
loop-nodes-preserved-in-Close c =
    let s = event_shrinks c.loop-nodes.rest.now c.in_ok-event.event c.in_ok-event.after.now c.in_ok-event.ensures in (
      far_close _ _ _ _ _ _ c.loop-nodes.invariant.0 _ (c.in_ok-event.ensures ∙ ap (λ (x : Event). Some (x, c.in_ok-event.after.now)) c.in-Close.is) c.in_default-in_tree.not-Opened
          (omega arith),
      omega (arith, c.loop-nodes.invariant.1),
    )

pub returns-in-Trees-clause-none : goal.returns-in-Trees-clause-none
returns-in-Trees-clause-none c = λ h. far_refused_item _ _ _ _ _ _ c.loop-nodes.invariant.0 _ _
    (c.in_ok-event.ensures ∙ ap (λ (x : Event). Some (x, c.in_ok-event.after.now)) c.in-Item.is) c.in-Trees.is

pub loop-nodes-smaller-in_ok-push-in-Item : goal.loop-nodes-smaller-in_ok-push-in-Item
loop-nodes-smaller-in_ok-push-in-Item c = event_shrinks c.loop-nodes.rest.now c.in_ok-event.event c.in_ok-event.after.now c.in_ok-event.ensures

pub loop-nodes-preserved-in_ok-push-in-Item : goal.loop-nodes-preserved-in_ok-push-in-Item
loop-nodes-preserved-in_ok-push-in-Item c =
    let s = event_shrinks c.loop-nodes.rest.now c.in_ok-event.event c.in_ok-event.after.now c.in_ok-event.ensures in (
      far_kept _ _ _ _ _ _ c.loop-nodes.invariant.0 c.in-Item.node c.in_ok-event.after.now _
          (c.in_ok-event.ensures ∙ ap (λ (x : Event). Some (
            x,
            c.in_ok-event.after.now,
          )) c.in-Item.is) c.in_default-in_tree-2.not-Trees c.if-on_main.true c.in_ok-push-in-Item.ensures.items,
      omega (arith, c.loop-nodes.invariant.1),
    )

pub loop-nodes-smaller : goal.loop-nodes-smaller
loop-nodes-smaller c = event_shrinks c.loop-nodes.rest.now c.in_ok-event.event c.in_ok-event.after.now c.in_ok-event.ensures

pub loop-nodes-preserved : goal.loop-nodes-preserved
loop-nodes-preserved c =
    let s = event_shrinks c.loop-nodes.rest.now c.in_ok-event.event c.in_ok-event.after.now c.in_ok-event.ensures in (
      far_aside _ _ _ _ _ _ c.loop-nodes.invariant.0 c.in-Item.node c.in_ok-event.after.now
          (c.in_ok-event.ensures ∙ ap (λ (x : Event). Some (x, c.in_ok-event.after.now)) c.in-Item.is) c.in_default-in_tree-2.not-Trees c.if-on_main.false,
      omega (arith, c.loop-nodes.invariant.1),
    )
