use Rattle.tt_text.specs.Scoring.{Scores}
use Rattle.tt_text.specs.Solving.{Solves}
use Rattle.tsumego_c.proofs.FirstLines.{whole_text}
use Rattle.tsumego_c.proofs.laws.first_text_is_whole_text.Goals as goal

pub returns-clause-score : goal.returns-clause-score
returns-clause-score c = whole_text Scores

pub returns-clause-solve : goal.returns-clause-solve
returns-clause-solve c = λ options. whole_text (Solves options)
