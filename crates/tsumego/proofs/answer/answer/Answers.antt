use Rattle.std.proofs.Common.{◌≡◌, ℕ, List, Option, subst, sym}
use Rattle.std.specs.declared.result.Result.{Result}
use Rattle.devices.specs.declared.fault.RunFault.{RunFault}
use Rattle.tsumego.specs.declared.task.InputTask.{InputTask}
use Rattle.tsumego.specs.Writing.{WritesAnswer}
use Rattle.tsumego.proofs.answer.answer.Goals as goal

-- what is written for a task is written for what is this task
of_task : (t u : InputTask) (input : List ℕ) (r : Result ℕ RunFault) (a b : Option (List ℕ)) → u ≡ t → WritesAnswer t input r a b → WritesAnswer u input r a b
of_task t u input r a b is w = subst (λ (x : InputTask). WritesAnswer x input r a b) (sym is) w

pub returns-in-Trees-clause-written : goal.returns-in-Trees-clause-written
returns-in-Trees-clause-written g c = of_task _ _ c.args.input.now c.answer_trees.result _ _ c.in-Trees.is c.answer_trees.ensures.written

pub returns-in-Check-clause-written : goal.returns-in-Check-clause-written
returns-in-Check-clause-written g c = of_task _ _ c.args.input.now c.answer_check.result _ _ c.in-Check.is c.answer_check.ensures.written
