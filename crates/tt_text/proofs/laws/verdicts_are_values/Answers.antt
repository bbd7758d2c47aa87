use Rattle.tt_text.proofs.Values.{are_values}
use Rattle.tt_text.proofs.laws.verdicts_are_values.Goals as goal

pub returns : goal.returns
returns c = are_values
