use Rattle.std.proofs.Common.{Option, IfSome, subst}
use Rattle.tt_share.specs.declared.answer.Answer.{Answer}
use Rattle.tt_share.specs.Answers.{IsAnswer}
use Rattle.tt_share.proofs.alone.new_results_or_answer.Goals as goal

pub returns-in-Err-clause-answer : goal.returns-in-Err-clause-answer
returns-in-Err-clause-answer g c = c.no_memory_answer.ensures c.args.line.now c.args.limits.now

pub returns-in-Err-of-clause-answer : goal.returns-in-Err-of-clause-answer
returns-in-Err-of-clause-answer g c = c.no_memory_answer-in-Err-of.ensures c.args.line.now c.args.limits.now

pub returns-in-Ok-Some-clause-answer : goal.returns-in-Ok-Some-clause-answer
returns-in-Ok-Some-clause-answer g c = λ total. subst
    (λ (o : Option Answer). IfSome o (λ (a : Answer). IsAnswer c.args.line.now c.args.limits.now total a)) c.in-Ok-Some.field-0-is (c.in-Ok-Some.ensures total)
