use Rattle.tt_text.proofs.OneText.{answers_same}
use Rattle.tt_text.proofs.laws.one_score_text.Goals as goal

pub returns : goal.returns
returns c = λ input s t m n. answers_same c.grammar_is_unambiguous.ensures input s t m n
