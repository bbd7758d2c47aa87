use Rattle.tt_text.proofs.SolvedLines.{verdict_lines_are_true}
use Rattle.tt_text.proofs.laws.verdict_lines_are_true.Goals as goal

pub returns : goal.returns
returns c = verdict_lines_are_true
