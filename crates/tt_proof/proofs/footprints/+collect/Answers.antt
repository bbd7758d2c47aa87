use Rattle.tt_proof.specs.declared.tree.Tree.TheViews.{the_lemmas}
use Rattle.std.proofs.Common.{rules, arith, ℕ, ◌+◌, add-one, drop-cons, ◌≡◌, ◌<◌, ◌≤◌, ◌∙◌, IfOk, OnOk, map, take, drop, get_or, ◌++◌, ◌∷◌, [], sym, ap, subst, length}
use Rattle.std.proofs.lemmas.List.{take_all, map_more}
use Rattle.tt_game.specs.Game.{after}
use Rattle.tt_game.specs.Line.{LineWithUndo}
use Rattle.tt_game.specs.declared.turns.Turn.{Turn}
use Rattle.tt_sgf.specs.declared.size.Size.{Size}
use Rattle.tt_proof.specs.Strategy.{Strategy, Entries, entry, turn_number_on_size, strategy_of, pick, reply, entries_of, entries_of_reply, depth_of_entries, AreInOrder}
use Rattle.tt_proof.specs.KeptFootprints.{IsFootprint, IsEntryJoined}
use Rattle.tt_proof.proofs.ResultLemmas.{if_ok, on_ok}
use Rattle.tt_proof.proofs.StrategyLemmas.{strategy_of_done, strategy_of_pick, strategy_of_reply, entries_map}
use Rattle.tt_proof.proofs.FootprintLemmas.{foot_no_pick, foot_no_entry, refused_bars}
use Rattle.tt_proof.proofs.footprints.+collect.Goals as goal

pub footprint_of-returns-in-Done-clause-exact : goal.footprint_of-returns-in-Done-clause-exact
footprint_of-returns-in-Done-clause-exact t c = rw (c.in-Done.is, strategy_of_done) (c.empty.ensures c.args.line.now.frame c.args.line.now.state)

pub footprint_of-footprint_of_pick-requires : goal.footprint_of-footprint_of_pick-requires
footprint_of-footprint_of_pick-requires t c =
    let low = rw (c.in-Pick.is, strategy_of_pick) at c.requires.depth in
    let ordered = rw (c.in-Pick.is, strategy_of_pick) at c.requires.in_order in
    (search (rules, the_lemmas), (rw c.deref.ensures (omega (arith, low)), (ordered.0, rw c.deref.ensures ordered.1)))

pub footprint_of-footprint_of_reply-requires : goal.footprint_of-footprint_of_reply-requires
footprint_of-footprint_of_reply-requires t c =
    let low = rw (c.in-Reply.is, strategy_of_reply) at c.requires.depth in
    let ordered = rw (c.in-Reply.is, strategy_of_reply) at c.requires.in_order in
    (search (rules, the_lemmas), (rw (c.deref-in-Reply-2.ensures.value, c.deref-in-Reply.ensures) low, rw (c.deref-in-Reply-2.ensures.value, c.deref-in-Reply.ensures) ordered))

pub footprint_of-returns-in-Pick-clause-exact : goal.footprint_of-returns-in-Pick-clause-exact
footprint_of-returns-in-Pick-clause-exact t c =
    rw (c.in-Pick.is, strategy_of_pick, ← c.deref.ensures) c.footprint_of_pick.ensures.exact

pub footprint_of-returns-in-Reply-clause-exact : goal.footprint_of-returns-in-Reply-clause-exact
footprint_of-returns-in-Reply-clause-exact t c =
    rw (c.in-Reply.is, strategy_of_reply, ← c.deref-in-Reply.ensures, ← c.deref-in-Reply-2.ensures.value) c.footprint_of_reply.ensures.exact

pub footprint_of_pick-returns-in-Err-Illegal-clause-exact :
    goal.footprint_of_pick-returns-in-Err-Illegal-clause-exact
footprint_of_pick-returns-in-Err-Illegal-clause-exact t c =
    let f = c.args.line.now.frame in
    let s = c.args.line.now.state in
    foot_no_pick f s c.args.turn.now (strategy_of c.args.tree.now) _
    (refused_bars f s c.args.turn.now c.in-Err-Illegal.field-0-0 (rw c.in-Err-Illegal.field-0-is at c.in-Err-Illegal.ensures.why)) (c.empty.ensures f s)

pub join_entry-returns-in-Err-Illegal-clause-exact :
    goal.join_entry-returns-in-Err-Illegal-clause-exact
join_entry-returns-in-Err-Illegal-clause-exact t c =
    let f = c.args.line.now.frame in
    let s = c.args.line.now.state in
    foot_no_entry f s c.args.turn.now (strategy_of c.args.tree.now) c.args.footprint.now
    (refused_bars f s c.args.turn.now c.in-Err-Illegal.field-0-0 (rw c.in-Err-Illegal.field-0-is at c.in-Err-Illegal.ensures.why))

pub footprint_of_reply-returns-clause-exact : goal.footprint_of_reply-returns-clause-exact
footprint_of_reply-returns-clause-exact t c =
    let end : length c.args.list.now ≤ c.loop-turn.turn-index = search rules in
    let entries = ap (λ es. reply (entries_of (map (λ e. (e.0, strategy_of e.1)) es))) (take_all c.loop-turn.turn-index c.args.list.now end) ∙ ap reply (entries_map c.args.list.now) in
    subst (λ u. IsFootprint c.args.line.now.frame c.args.line.now.state u c.loop-turn.footprint) entries
    (rw (← c.loop-turn.invariant.same) c.loop-turn.invariant.joined)

-- behind an entry the others are in order
rest_in_order : (size : Size) (least : ℕ) (t : Turn) (u : Strategy) (es : Entries) → AreInOrder size least (entry t u es) → (next : ℕ) × AreInOrder size next es
rest_in_order size least t u es h = (turn_number_on_size size t + 1, h.3)

pub footprint_of_pick-returns-in_ok-behind-in-Ok-clause-exact :
    goal.footprint_of_pick-returns-in_ok-behind-in-Ok-clause-exact
footprint_of_pick-returns-in_ok-behind-in-Ok-clause-exact t c =
    let same : c.pop.new.self ≡ c.args.line.now = search rules in
    let turn = c.args.turn.now in
    let behind = c.in_ok-behind-in-Ok.behind in
    let foot = subst (λ (l : LineWithUndo). IsFootprint l.frame l.state (strategy_of c.args.tree.now) behind) c.in-Ok.ensures.ok.1 c.in_ok-behind-in-Ok.ensures.exact in
    let more = subst (λ (l : LineWithUndo). IfOk c.picked.result (λ x. (u : Strategy) → IsFootprint l.frame (after l.frame l.state turn) u behind
    → IsFootprint l.frame l.state (pick turn u) x)) same c.picked.ensures in
    if_ok c.picked.result _ _ (λ x h. h (strategy_of c.args.tree.now) foot) more

pub join_entry-returns-in_ok-behind-in-Ok-clause-exact : goal.join_entry-returns-in_ok-behind-in-Ok-clause-exact
join_entry-returns-in_ok-behind-in-Ok-clause-exact t c =
    let same : c.pop.new.self ≡ c.args.line.now = search rules in
    let turn = c.args.turn.now in
    let behind = c.in_ok-behind-in-Ok.behind in
    let foot = subst (λ (l : LineWithUndo). IsFootprint l.frame l.state (strategy_of c.args.tree.now) behind) c.in-Ok.ensures.ok.1 c.in_ok-behind-in-Ok.ensures.exact in
    let more = subst (λ (l : LineWithUndo). OnOk c.join_reply_turn.result ((u : Strategy) → IsFootprint l.frame (after l.frame l.state turn) u behind
    → IsEntryJoined l.frame l.state turn u c.args.footprint.now c.join_reply_turn.new.self)) same c.join_reply_turn.ensures in
    on_ok c.join_reply_turn.result _ _ (λ h. h (strategy_of c.args.tree.now) foot) more

pub footprint_of_reply-loop-turn-preserved : goal.footprint_of_reply-loop-turn-preserved
footprint_of_reply-loop-turn-preserved t c =
    let list = c.args.list.now in
    let n = c.loop-turn.turn-index in
    let item = c.loop-turn-item.result in
    let lt : n < length list = search rules in
    let is : item ≡ get_or list n item = search rules in
    let rest : drop n list ≡ item ∷ drop (n + 1) list =
    drop-cons list n item lt ∙ ap (λ m. get_or list n item ∷ drop m list) (sym (add-one n)) ∙ ap (λ e. e ∷ drop (n + 1) list) (sym is) in
    let new = c.join_entry.new in
    let joined = c.in_ok-join_entry.ensures.exact (map (λ e. (e.0, strategy_of e.1)) (take n list)) c.loop-turn.invariant.joined in
    record {
      same = c.join_entry.ensures.same ∙ c.loop-turn.invariant.same;
      joined =
          subst (λ es. IsFootprint new.line.frame new.line.state (reply (entries_of es)) new.footprint)
          (sym (map_more (λ e. (e.0, strategy_of e.1)) list n item lt))
          (subst (λ e. IsFootprint new.line.frame new.line.state (reply (entries_of (map (λ e. (e.0, strategy_of e.1)) (take n list) ++ (e.0, strategy_of e.1) ∷ []))) new.footprint) is
          (subst (λ (l : LineWithUndo). IsFootprint l.frame l.state (reply (entries_of (map (λ e. (e.0, strategy_of e.1)) (take n list) ++ (item.0, strategy_of item.1) ∷ []))) new.footprint)
          (sym c.join_entry.ensures.same) joined));
      depth = let low = subst (λ es. depth_of_entries (entries_of_reply es) ≤ 512) rest c.loop-turn.invariant.depth in omega (arith, low);
      in_order =
          subst (λ (l : LineWithUndo). (least : ℕ) × AreInOrder l.frame.size least (entries_of_reply (drop (n + 1) list))) (sym c.join_entry.ensures.same)
          (rest_in_order c.loop-turn.line.frame.size c.loop-turn.invariant.in_order.0 item.0 (strategy_of item.1) (entries_of_reply (drop (n + 1) list))
          (subst (λ es. AreInOrder c.loop-turn.line.frame.size c.loop-turn.invariant.in_order.0 (entries_of_reply es)) rest c.loop-turn.invariant.in_order.1));
    }
