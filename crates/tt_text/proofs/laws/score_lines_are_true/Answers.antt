use Rattle.tt_text.proofs.ScoredLines.{score_lines_are_true}
use Rattle.tt_text.proofs.laws.score_lines_are_true.Goals as goal

pub returns : goal.returns
returns c = score_lines_are_true
