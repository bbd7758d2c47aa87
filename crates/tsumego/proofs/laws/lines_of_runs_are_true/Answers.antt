use Rattle.tsumego.proofs.OtherLines.{lines_of_runs_are_true}
use Rattle.tsumego.proofs.laws.lines_of_runs_are_true.Goals as goal

pub returns : goal.returns
returns c = lines_of_runs_are_true c.solve_lines_are_true.ensures c.score_lines_are_true.ensures c.check_lines_are_true.ensures
