use Rattle.tt_board.proofs.PlaneLemmas.{plain_none, shown_none}
use Rattle.tt_board.proofs.colouring.Colouring.empty.Goals as goal

pub invariant_of-result : goal.invariant_of-result
invariant_of-result c = plain_none c.args.count c.requires c.none.result.words c.none-2.result.words c.none.ensures c.none-2.ensures

pub returns : goal.returns
returns c = shown_none c.args.count c.requires c.none.result.words c.none-2.result.words c.none.ensures c.none-2.ensures
