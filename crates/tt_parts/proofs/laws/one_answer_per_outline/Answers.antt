use Rattle.tt_parts.proofs.OutlineSameLemmas.{one_answer}
use Rattle.tt_parts.proofs.laws.one_answer_per_outline.Goals as goal

pub returns : goal.returns
returns c = one_answer
