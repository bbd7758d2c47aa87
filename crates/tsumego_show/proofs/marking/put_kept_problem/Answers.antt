use Rattle.std.proofs.Common.{rules, List, ℕ, subst}
use Rattle.tsumego_show.specs.Written.{IsTextOf}
use Rattle.tsumego_show.proofs.marking.put_kept_problem.Goals as goal

pub returns : goal.returns
returns c = (
  search rules,
  subst (λ (text : List ℕ). IsTextOf text c.args.line.now) c.as_slice.ensures.value c.in_ok-check_problem.ensures.reads,
  search rules,
)
