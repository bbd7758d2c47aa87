use Rattle.std.proofs.Common.{◌∙◌, ap, sym}
use Rattle.tt_proof.specs.Strategy.{pick, reply, strategy_of, entries_of_reply}
use Rattle.tt_proof.proofs.StrategyLemmas.{strategy_of_pick, strategy_of_reply}
use Rattle.tt_proof.proofs.tree.Tree.try_clone.Goals as goal

pub returns-in_ok-child-in-Pick : goal.returns-in_ok-child-in-Pick
returns-in_ok-child-in-Pick c =
    strategy_of_pick _ _ ∙ ap (λ x. pick c.in-Pick.turn (strategy_of x)) c.in_ok-child-in-Pick.ensures
    ∙ sym (strategy_of_pick _ _) ∙ ap strategy_of (sym c.in-Pick.is)

pub returns-in_ok-list-in-Reply : goal.returns-in_ok-list-in-Reply
returns-in_ok-list-in-Reply c =
    strategy_of_reply _ ∙ ap (λ x. reply (entries_of_reply x.items)) c.in_ok-list-in-Reply.ensures
    ∙ sym (strategy_of_reply _) ∙ ap strategy_of (sym c.in-Reply.is)
