use Rattle.std.proofs.Common.{arith}
use Rattle.tt_proof.proofs.StrategyLemmas.{strategy_of_done, strategy_of_pick, strategy_of_reply}
use Rattle.tt_proof.proofs.measures.+measures.Goals as goal

pub measures-returns-in-Done-clause-levels : goal.measures-returns-in-Done-clause-levels
measures-returns-in-Done-clause-levels t c = rw (c.in-Done.is, strategy_of_done) (grind arith)

pub measures-returns-in-Done-clause-size : goal.measures-returns-in-Done-clause-size
measures-returns-in-Done-clause-size t c = rw (c.in-Done.is, strategy_of_done) (grind arith)

pub measures-returns-in-Pick-clause-levels : goal.measures-returns-in-Pick-clause-levels
measures-returns-in-Pick-clause-levels t c =
    let same = c.deref.ensures in
    let below = c.measures-levels.ensures.levels in
    let added = c.saturating_add.ensures in
    rw (c.in-Pick.is, strategy_of_pick, ← same) (grind (arith, below, added))

pub measures-returns-in-Pick-clause-size : goal.measures-returns-in-Pick-clause-size
measures-returns-in-Pick-clause-size t c =
    let same = c.deref.ensures in
    let below = c.measures-levels.ensures.size in
    let added = c.saturating_add-in-Pick.ensures in
    rw (c.in-Pick.is, strategy_of_pick, ← same) (grind (arith, below, added))

pub measures-returns-in-Reply-clause-levels : goal.measures-returns-in-Reply-clause-levels
measures-returns-in-Reply-clause-levels t c =
    rw (c.in-Reply.is, strategy_of_reply, ← c.deref-in-Reply.ensures, ← c.deref-in-Reply-2.ensures.value) c.measures_of_replies.ensures.levels

pub measures-returns-in-Reply-clause-size : goal.measures-returns-in-Reply-clause-size
measures-returns-in-Reply-clause-size t c =
    rw (c.in-Reply.is, strategy_of_reply, ← c.deref-in-Reply.ensures, ← c.deref-in-Reply-2.ensures.value) c.measures_of_replies.ensures.size
