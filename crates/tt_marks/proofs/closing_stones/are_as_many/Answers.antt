use Rattle.std.proofs.Common.{sym}
use Rattle.tt_marks.proofs.ClosingLemmas.{none_first}
use Rattle.tt_marks.proofs.closing_stones.are_as_many.Goals as goal

pub returns-in-None : goal.returns-in-None
returns-in-None c = λ _ _. none_first c.args.found.now _ (sym c.in-None.ensures.value)
