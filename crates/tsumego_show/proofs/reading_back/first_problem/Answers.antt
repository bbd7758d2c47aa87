use Rattle.std.proofs.Common.{rules}
use Rattle.tsumego_show.proofs.ReadBack.{refused_none}
use Rattle.tsumego_show.proofs.reading_back.first_problem.Goals as goal

pub returns-in-Err-clause-other : goal.returns-in-Err-clause-other
returns-in-Err-clause-other c = λ same.
    let none = c.in-Err.ensures.other (search rules) in
    (none.0, λ q is. none.1 is.0 is.1 is.2)

pub returns : goal.returns
returns c = record {
  read = tt;
  other = λ _.
      let there = rw c.in-Ok-Some.field-0-is at c.in-Ok-Some.ensures.read in
      let found = there.1 in
      let fault = c.in-Err-problem.ensures (search rules) in
      (there.0, λ q is. refused_none c.grammar_is_unambiguous.ensures c.args.text.now found.0 found.1 found.2.0 c.in-Ok-Some.main.nodes c.in-Err-problem.field-0 found.3 fault q is);
}
