use Rattle.tt_text.proofs.CheckedLines.{check_lines_are_true}
use Rattle.tt_text.proofs.laws.check_lines_are_true.Goals as goal

pub returns : goal.returns
returns c = check_lines_are_true
