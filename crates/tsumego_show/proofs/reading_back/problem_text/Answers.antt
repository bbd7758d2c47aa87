use Rattle.std.proofs.Common.{List, ℕ, subst}
use Rattle.tsumego_show.specs.Written.{IsTextOf}
use Rattle.tsumego_show.proofs.reading_back.problem_text.Goals as goal

pub returns-clause-reads : goal.returns-clause-reads
returns-clause-reads c = subst (λ (text : List ℕ). IsTextOf text c.args.line.now) c.as_slice.ensures.value c.in_ok-check_problem.ensures.reads
