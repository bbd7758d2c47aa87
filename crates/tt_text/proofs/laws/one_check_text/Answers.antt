use Rattle.tt_text.proofs.OneCheck.{checks_same}
use Rattle.tt_text.proofs.laws.one_check_text.Goals as goal

pub returns : goal.returns
returns c = checks_same c.one_strategy_per_certificate.ensures c.one_outline_per_certificate.ensures c.one_answer_per_outline.ensures c.grammar_is_unambiguous.ensures
