use Rattle.tt_proof.specs.declared.tree.Tree.TheViews.{the_lemmas}
use Rattle.std.proofs.Common.{rules}
use Rattle.tt_proof.proofs.StrategyLemmas.{strategy_of_pick, strategy_of_reply}
use Rattle.tt_parts.proofs.outline_write.draft.+walk.Goals as goal

pub walk-walk_pick-requires : goal.walk-walk_pick-requires
walk-walk_pick-requires t c =
    let ordered = rw (c.in-Pick.is, strategy_of_pick) at c.requires.in_order in
    (search (rules, the_lemmas), (ordered.0, rw c.deref.ensures ordered.1))

pub walk-walk_reply-requires : goal.walk-walk_reply-requires
walk-walk_reply-requires t c =
    let ordered = rw (c.in-Reply.is, strategy_of_reply) at c.requires.in_order in
    (search (rules, the_lemmas), rw (c.deref-in-Reply-2.ensures.value, c.deref-in-Reply.ensures) ordered)
