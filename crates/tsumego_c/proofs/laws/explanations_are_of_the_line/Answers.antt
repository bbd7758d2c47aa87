use Rattle.tsumego_c.proofs.Refusals.{explains_score, explains_solve}
use Rattle.tsumego_c.proofs.laws.explanations_are_of_the_line.Goals as goal

pub returns-clause-score : goal.returns-clause-score
returns-clause-score c = explains_score c.grammar_is_unambiguous.ensures

pub returns-clause-solve : goal.returns-clause-solve
returns-clause-solve c = λ options. explains_solve c.grammar_is_unambiguous.ensures options
