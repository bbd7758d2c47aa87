use Rattle.tt_proof.proofs.StrategyLemmas.{strategy_of_done, strategy_of_pick, strategy_of_reply}
use Rattle.tt_proof.proofs.tree.Tree.first.Goals as goal

pub returns-in-Done : goal.returns-in-Done
returns-in-Done c = rw (c.in-Done.is, strategy_of_done)

pub returns-in-Pick : goal.returns-in-Pick
returns-in-Pick c = rw (c.in-Pick.is, strategy_of_pick)

pub returns-in-Reply : goal.returns-in-Reply
returns-in-Reply c = rw (c.in-Reply.is, strategy_of_reply)
