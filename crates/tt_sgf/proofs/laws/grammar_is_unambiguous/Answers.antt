use Rattle.tt_sgf.proofs.FirstTreeLemmas.{grammar_is_unambiguous}
use Rattle.tt_sgf.proofs.laws.grammar_is_unambiguous.Goals as goal

pub returns : goal.returns
returns c = grammar_is_unambiguous
