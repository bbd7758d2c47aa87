use Rattle.tt_sgf.proofs.GrammarLemmas.{tree_texts_are_prefix_free}
use Rattle.tt_sgf.proofs.laws.tree_texts_are_prefix_free.Goals as goal

pub returns : goal.returns
returns c = tree_texts_are_prefix_free
