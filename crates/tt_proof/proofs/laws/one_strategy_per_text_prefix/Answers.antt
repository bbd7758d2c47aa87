use Rattle.tt_proof.proofs.TextLemmas.{same_tree}
use Rattle.tt_proof.proofs.laws.one_strategy_per_text_prefix.Goals as goal

pub returns : goal.returns
returns c = λ size u v y z e. same_tree size size.columns_in.0 u v y z e
