use Rattle.std.proofs.lemmas.Result.{IfOk-weaker}
use Rattle.tsumego_c.specs.Options.{IsSolveText}
use Rattle.tsumego_c.proofs.Endings.{hands_over}
use Rattle.tsumego_c.proofs.tsumego_c_solve.Goals as goal

pub returns-in-Some-clause-solved : goal.returns-in-Some-clause-solved
returns-in-Some-clause-solved c = λ within.
    let made = c.solve_text-made in
    let means = c.in-Some.ensures.asked in
    hands_over (IsSolveText c.args.options.now c.args.sgf.now) made.result c.args.out.now c.hand_over.new.out c.hand_over.new.taken c.hand_over.result
    (IfOk-weaker made.result _ _ (λ t h. (c.in-Some.options, means, h)) made.ensures) c.hand_over.ensures
