use Rattle.tt_proof.specs.declared.tree.Tree.TheViews.{the_lemmas}
use Rattle.std.proofs.Common.{Bool, ◌↔◌, ◌∙◌, rules, arith, ◌≡◌, false, IsTrue, true≢false, sym, Result, Ok, Err, IfOk}
use Rattle.tt_proof.proofs.StrategyLemmas.{strategy_of_done, strategy_of_pick, strategy_of_reply}
use Rattle.tt_proof.specs.EndRules.{at_win}
use Rattle.tt_proof.proofs.WinsLemmas.{reply_answers, reply_wins}
use Rattle.tt_proof.proofs.replays.+replay.Goals as goal

pub replay-returns-in-Done-clause-exact : goal.replay-returns-in-Done-clause-exact
replay-returns-in-Done-clause-exact t c = rw (c.in-Done.is, strategy_of_done) (search rules)

pub replay-replay_pick-requires : goal.replay-replay_pick-requires
replay-replay_pick-requires t c =
    let low = rw (c.in-Pick.is, strategy_of_pick) at c.requires.depth in
    let ordered = rw (c.in-Pick.is, strategy_of_pick) at c.requires.in_order in
    (search (rules, the_lemmas), (rw c.deref.ensures (omega (arith, low)), (ordered.0, rw c.deref.ensures ordered.1)))

pub replay-replay_reply-requires : goal.replay-replay_reply-requires
replay-replay_reply-requires t c =
    let low = rw (c.in-Reply.is, strategy_of_reply) at c.requires.depth in
    let ordered = rw (c.in-Reply.is, strategy_of_reply) at c.requires.in_order in
    (search (rules, the_lemmas), (rw (c.deref-in-Reply-2.ensures.value, c.deref-in-Reply.ensures) low, rw (c.deref-in-Reply-2.ensures.value, c.deref-in-Reply.ensures) ordered))

pub replay-returns-in-Pick-clause-exact : goal.replay-returns-in-Pick-clause-exact
replay-returns-in-Pick-clause-exact t c =
    rw (c.in-Pick.is, strategy_of_pick, ← c.deref.ensures) c.replay_pick.ensures.exact

pub replay-returns-in-Reply-clause-exact : goal.replay-returns-in-Reply-clause-exact
replay-returns-in-Reply-clause-exact t c =
    rw (c.in-Reply.is, strategy_of_reply, ← c.deref-in-Reply.ensures, ← c.deref-in-Reply-2.ensures.value) c.replay_reply.ensures.exact

-- where a test finds false, what implies the thing tested is false too
refused : (b : Bool) (P Q : Type 0) → b ≡ false → (IsTrue b ↔ P) → (Q → P) → IsTrue false ↔ Q
refused b P Q e h from = (λ t. absurd (true≢false (sym t)), λ q. absurd (true≢false (sym (h.1 (from q)) ∙ e)))

pub replay_reply-returns-then-not-awaits_and_answers_each_turn-clause-exact :
    goal.replay_reply-returns-then-not-awaits_and_answers_each_turn-clause-exact
replay_reply-returns-then-not-awaits_and_answers_each_turn-clause-exact t c =
    refused c.awaits_and_answers_each_turn.result _ _ c.if-not-awaits_and_answers_each_turn.true c.awaits_and_answers_each_turn.ensures
    (reply_answers at_win c.args.s c.args.line.now.frame c.args.line.now.state _)

-- what follows from what a result says of its value it says of it too
each_ok : {S : Type 0} (r : Result Bool S) (P Q : Bool → Type 0) → ((b : Bool) → P b → Q b) → IfOk r P → IfOk r Q
each_ok (Ok b) P Q h p = h b p
each_ok (Err e) P Q h p = p

pub replay_reply-returns-clause-exact : goal.replay_reply-returns-clause-exact
replay_reply-returns-clause-exact t c =
    let same = reply_wins at_win c.args.s c.args.line.now.frame c.args.line.now.state _ c.requires.in_order
    (c.awaits_and_answers_each_turn.ensures.0 c.if-not-awaits_and_answers_each_turn.false) in
    each_ok c.replay_entries.result _ _ (λ b iff. (λ e. same.0 (iff.0 e), λ w. iff.1 (same.1 w))) c.replay_entries.ensures.exact
