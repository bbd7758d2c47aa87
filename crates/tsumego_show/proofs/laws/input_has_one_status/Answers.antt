use Rattle.tsumego_show.proofs.OneStatus.{status_same}
use Rattle.tsumego_show.proofs.laws.input_has_one_status.Goals as goal

pub returns : goal.returns
returns c = status_same c.grammar_is_unambiguous.ensures
