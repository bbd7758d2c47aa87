use Rattle.tsumego.proofs.Headline.{verdicts_of_runs_are_true}
use Rattle.tsumego.proofs.laws.headline.Goals as goal

pub returns : goal.returns
returns c = verdicts_of_runs_are_true c.verdict_lines_are_true.ensures
