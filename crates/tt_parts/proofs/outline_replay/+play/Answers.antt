use Rattle.tt_parts.specs.declared.outlines.Outline.TheViews.{the_lemmas}
use Rattle.std.proofs.Common.{rules, ◌≡◌, ◌≢◌, ◌∙◌, ◌<◌, ◌≤◌, ◌+◌, ◌∷◌, ℕ, inl, inr, None, Option, IfOk, sym, ap, refl, subst, drop, get_or, length, drop-cons, add-one, true≢false}
use Rattle.std.proofs.Math.ListN.{drop_of_length-le}
use Rattle.tt_game.specs.Line.{LineWithUndo}
use Rattle.tt_sgf.specs.declared.size.Size.{Size}
use Rattle.tt_game.specs.declared.turns.Turn.{Turn}
use Rattle.tt_parts.specs.declared.position_footprint.PositionFootprint.{PositionFootprint}
use Rattle.tt_parts.specs.declared.outline_replay.ReplayResult.TheVariants.{Won, Unfit}
use Rattle.tt_proof.specs.Strategy.{turn_number_on_size}
use Rattle.tt_parts.specs.Outlines.{Outline, Branches, branch, branches_of_reply, outline_of, AreBranchesInOrder}
use Rattle.tt_parts.specs.SharedParts.{IsReplayOfOutline, IsResultBeforeTurn, IsResultOfPart, IsResultOfReply, RestsBeforePick, RestsBeforeOpposingTurn, RestsOnPositionAlone}
use Rattle.tt_parts.specs.inside.OutlineReplaying.{FindsBranch}
use Rattle.tt_proof.proofs.ResultLemmas.{if_ok}
use Rattle.tt_proof.proofs.FootprintLemmas.{refused_bars}
use Rattle.tt_parts.proofs.OutlineLemmas.{outline_of_done, outline_of_pick, outline_of_reply, outline_of_part}
use Rattle.tt_parts.proofs.OutlineReplayLemmas.{Replayed, replayed_start, replayed_more, replayed_end, any_other, none_past, some_none, drop_none}
use Rattle.tt_parts.proofs.outline_replay.+play.Goals as goal

pub replay_outline-returns-in-Done-clause-found : goal.replay_outline-returns-in-Done-clause-found
replay_outline-returns-in-Done-clause-found t c = rw (c.in-Done.is, outline_of_done) (if_ok c.result_of_done.result _ _ (λ r g. (g, refl)) c.result_of_done.ensures)

pub replay_outline-returns-in-Some-clause-found : goal.replay_outline-returns-in-Some-clause-found
replay_outline-returns-in-Some-clause-found t c =
    let ns = c.args.names.now.items in
    let k = c.in-Part.k in
    let f = c.args.line.now.frame in
    let at = c.args.line.now.state in
    let within : k < length ns = search rules in
    let stands : c.in-Some.name.now ≡ get_or ns k c.in-Some.name.now = search rules in
    rw (c.in-Part.is, outline_of_part)
    (if_ok c.result_of_part.result _ _
    (λ r g. (subst (λ (n : Option PositionFootprint). IsResultOfPart f n at r) (stands ∙ any_other ns k c.in-Some.name.now None within) g, refl)) c.result_of_part.ensures)

pub replay_outline-returns-in-None-clause-found : goal.replay_outline-returns-in-None-clause-found
replay_outline-returns-in-None-clause-found t c =
    let ns = c.args.names.now.items in
    let past : length ns ≤ c.in-Part.k = search rules in
    rw (c.in-Part.is, outline_of_part)
    (subst (λ (n : Option PositionFootprint). IsResultOfPart c.args.line.now.frame n c.args.line.now.state Unfit) (sym (none_past ns c.in-Part.k past)) (λ x e m. some_none x e), refl)

pub replay_outline-returns-in_ok-put_footprint_if_named-in-Pick-clause-found : goal.replay_outline-returns-in_ok-put_footprint_if_named-in-Pick-clause-found
replay_outline-returns-in_ok-put_footprint_if_named-in-Pick-clause-found t c =
    rw (c.in-Pick.is, outline_of_pick, ← c.deref-in-Pick.ensures) (_, (c.in_ok-put_footprint_if_named-in-Pick.ensures, c.in_ok-found-in-Pick.ensures.found))

pub replay_outline-returns-in_ok-put_footprint_if_named-in-Reply-clause-found : goal.replay_outline-returns-in_ok-put_footprint_if_named-in-Reply-clause-found
replay_outline-returns-in_ok-put_footprint_if_named-in-Reply-clause-found t c =
    rw (c.in-Reply.is, outline_of_reply, ← c.deref-in-Reply.ensures, ← c.deref-in-Reply-2.ensures.value)
    (_, (c.in_ok-put_footprint_if_named-in-Reply.ensures, c.in_ok-found-in-Reply.ensures.found))

pub replay_outline-replay_pick-requires : goal.replay_outline-replay_pick-requires
replay_outline-replay_pick-requires t c =
    let ordered = rw (c.in-Pick.is, outline_of_pick) at c.requires.orderly in
    (search (rules, the_lemmas), (ordered.0, rw c.deref-in-Pick.ensures ordered.1))

pub replay_outline-replay_reply-requires : goal.replay_outline-replay_reply-requires
replay_outline-replay_reply-requires t c =
    let ordered = rw (c.in-Reply.is, outline_of_reply) at c.requires.orderly in
    (search (rules, the_lemmas), rw (c.deref-in-Reply-2.ensures.value, c.deref-in-Reply.ensures) ordered)

pub replay_pick-returns-in_ok-behind-in-Ok-clause-found : goal.replay_pick-returns-in_ok-behind-in-Ok-clause-found
replay_pick-returns-in_ok-behind-in-Ok-clause-found t c =
    let same : c.pop.new.self ≡ c.args.line.now = search rules in
    let s = c.args.s in
    let turn = c.args.turn in
    let o = outline_of c.args.child.now in
    let mine : c.args.line.now.state.to_move ≡ s = search rules in
    let behind = subst (λ (l : LineWithUndo). IsReplayOfOutline s l.frame c.args.names.now.items o l.state c.in_ok-behind-in-Ok.behind c.replay_outline-found.new.names.items)
    c.in-Ok.ensures.ok.1 c.in_ok-behind-in-Ok.ensures.found in
    let more = subst (λ (l : LineWithUndo). IfOk c.result_of_pick.result (IsResultBeforeTurn (RestsBeforePick l.frame l.state turn) c.in_ok-behind-in-Ok.behind))
    same c.result_of_pick.ensures in
    if_ok c.result_of_pick.result _ _ (λ r g. inl (mine, c.in-Ok.ensures.ok.0, (c.in_ok-behind-in-Ok.behind, (behind, g)))) more

pub replay_pick-returns-in_ok-skip-in-Err-Illegal-clause-found : goal.replay_pick-returns-in_ok-skip-in-Err-Illegal-clause-found
replay_pick-returns-in_ok-skip-in-Err-Illegal-clause-found t c = inr (
  λ e. refused_bars c.args.line.now.frame c.args.line.now.state c.args.turn c.in-Err-Illegal.field-0-0
      (rw c.in-Err-Illegal.field-0-is at c.in-Err-Illegal.ensures.why),
  refl,
  c.in_ok-skip-in-Err-Illegal.ensures,
)

pub replay_pick-returns-then-ne-clause-found : goal.replay_pick-returns-then-ne-clause-found
replay_pick-returns-then-ne-clause-found t c =
    let differs : c.args.line.now.state.to_move ≢ c.args.s = search rules in
    inr (λ e l. differs e, refl, c.in_ok-skip.ensures)

pub replay_reply-returns-then-not-awaits_other_side-clause-found : goal.replay_reply-returns-then-not-awaits_other_side-clause-found
replay_reply-returns-then-not-awaits_other_side-clause-found t c =
    inr (λ e d. true≢false (sym (c.awaits_other_side.ensures.1 (e, d)) ∙ c.if-not-awaits_other_side.true), refl, c.in_ok-skip_branches.ensures)

pub replay_reply-returns-clause-found : goal.replay_reply-returns-clause-found
replay_reply-returns-clause-found t c =
    let asked = c.awaits_other_side.ensures.0 c.if-not-awaits_other_side.false in
    let more = subst (λ (l : LineWithUndo). IsResultOfReply l.frame l.state (branches_of_reply c.args.list.now) c.in_ok-found.found c.result_of_reply.result)
    c.in_ok-found.ensures.same c.result_of_reply.ensures in
    inl (asked.0, asked.1, (c.in_ok-found.found, (c.in_ok-found.ensures.found, more)))

pub replay_branch-returns-in_ok-behind-in-Ok-clause-found : goal.replay_branch-returns-in_ok-behind-in-Ok-clause-found
replay_branch-returns-in_ok-behind-in-Ok-clause-found t c =
    let same : c.pop.new.self ≡ c.args.line.now = search rules in
    let s = c.args.s in
    let turn = c.args.turn in
    let o = outline_of c.args.child.now in
    let behind = subst (λ (l : LineWithUndo). IsReplayOfOutline s l.frame c.args.names.now.items o l.state c.in_ok-behind-in-Ok.behind c.replay_outline-found.new.names.items)
    c.in-Ok.ensures.ok.1 c.in_ok-behind-in-Ok.ensures.found in
    let more = subst (λ (l : LineWithUndo). IfOk c.result_of_branch.result (IsResultBeforeTurn (RestsBeforeOpposingTurn l.frame l.state turn) c.in_ok-behind-in-Ok.behind))
    same c.result_of_branch.ensures in
    if_ok c.result_of_branch.result _ _ (λ r g. inl (c.in-Ok.ensures.ok.0, (c.in_ok-behind-in-Ok.behind, (behind, g)))) more

pub replay_branch-returns-in_ok-basis-in-Err-Illegal-clause-found : goal.replay_branch-returns-in_ok-basis-in-Err-Illegal-clause-found
replay_branch-returns-in_ok-basis-in-Err-Illegal-clause-found t c =
    let f = c.args.line.now.frame in
    let at = c.args.line.now.state in
    let same : c.push.new.self ≡ c.args.line.now = search rules in
    let stands = subst (λ (l : LineWithUndo). RestsOnPositionAlone l.frame l.state c.in_ok-basis-in-Err-Illegal.basis) same c.in_ok-basis-in-Err-Illegal.ensures in
    inr (
      refused_bars f at c.args.turn c.in-Err-Illegal.field-0-0 (rw c.in-Err-Illegal.field-0-is at c.in-Err-Illegal.ensures.why),
      (c.in_ok-basis-in-Err-Illegal.basis, (refl, stands)),
      c.in_ok-skip-in-Err-Illegal.ensures,
    )

-- behind a branch the others are in order
rest_orderly : (size : Size) (least : ℕ) (t : Turn) (o : Outline) (bs : Branches) → AreBranchesInOrder size least (branch t o bs) → (next : ℕ) × AreBranchesInOrder size next bs
rest_orderly size least t o bs h = (turn_number_on_size size t + 1, h.3)

pub replay_branches-loop-turn-init : goal.replay_branches-loop-turn-init
replay_branches-loop-turn-init t c =
    let list = c.args.list.now in
    let f = c.args.line.now.frame in
    let at = c.args.line.now.state in
    let bs = branches_of_reply list in
    record {
      same = refl;
      orderly = (0, subst (λ xs. AreBranchesInOrder f.size 0 (branches_of_reply xs)) (sym (drop_none list)) c.requires.orderly);
      replayed =
          subst (λ xs. Replayed c.args.s f at c.args.names.now.items bs (branches_of_reply xs) c.args.names.now.items (Won c.in_ok-basis.basis)) (sym (drop_none list))
          (replayed_start c.args.s f at c.args.names.now.items bs c.in_ok-basis.basis c.in_ok-basis.ensures);
    }

pub replay_branches-loop-turn-preserved : goal.replay_branches-loop-turn-preserved
replay_branches-loop-turn-preserved t c =
    let list = c.args.list.now in
    let n = c.loop-turn.turn-index in
    let item = c.loop-turn-item.result in
    let lt : n < length list = search rules in
    let is : item ≡ get_or list n item = search rules in
    let rest : drop n list ≡ item ∷ drop (n + 1) list =
    drop-cons list n item lt ∙ ap (λ m. get_or list n item ∷ drop m list) (sym (add-one n)) ∙ ap (λ e. e ∷ drop (n + 1) list) (sym is) in
    let s = c.args.s in
    let f = c.args.line.now.frame in
    let at = c.args.line.now.state in
    let bs = branches_of_reply list in
    let left = branches_of_reply (drop (n + 1) list) in
    let o = outline_of item.1 in
    let ns = c.args.names.now.items in
    let new = c.replay_branch.new in
    let found = subst (λ (l : LineWithUndo). FindsBranch s l.frame c.loop-turn.names.items item.0 o l.state c.in_ok-next.next new.names.items)
    c.loop-turn.invariant.same c.in_ok-next.ensures.found in
    record {
      same = c.replay_branch.ensures.same ∙ c.loop-turn.invariant.same;
      orderly =
          subst (λ (l : LineWithUndo). (least : ℕ) × AreBranchesInOrder l.frame.size least left) (sym c.replay_branch.ensures.same)
          (rest_orderly c.loop-turn.line.frame.size c.loop-turn.invariant.orderly.0 item.0 o left
          (subst (λ xs. AreBranchesInOrder c.loop-turn.line.frame.size c.loop-turn.invariant.orderly.0 (branches_of_reply xs)) rest c.loop-turn.invariant.orderly.1));
      replayed =
          replayed_more s f at ns bs left item.0 o c.loop-turn.names.items new.names.items c.loop-turn.found c.in_ok-next.next _
          (subst (λ xs. Replayed s f at ns bs (branches_of_reply xs) c.loop-turn.names.items c.loop-turn.found) rest c.loop-turn.invariant.replayed)
          found c.in_ok-found.ensures;
    }

pub replay_branches-returns-clause-found : goal.replay_branches-returns-clause-found
replay_branches-returns-clause-found t c =
    let list = c.args.list.now in
    let s = c.args.s in
    let f = c.args.line.now.frame in
    let at = c.args.line.now.state in
    let bs = branches_of_reply list in
    let ns = c.args.names.now.items in
    let end : length list ≤ c.loop-turn.turn-index = search rules in
    replayed_end s f at ns bs c.loop-turn.names.items c.loop-turn.found
    (subst (λ xs. Replayed s f at ns bs (branches_of_reply xs) c.loop-turn.names.items c.loop-turn.found) (drop_of_length-le list end) c.loop-turn.invariant.replayed)
