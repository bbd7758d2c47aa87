use Rattle.tt_text.proofs.SolvedLines.{solve_lines_are_true}
use Rattle.tt_text.proofs.laws.solve_lines_are_true.Goals as goal

pub returns : goal.returns
returns c = solve_lines_are_true
