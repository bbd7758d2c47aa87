use Rattle.tt_solve.proofs.solving.solution_alone.Goals as goal

pub returns : goal.returns
returns c = c.solution_of_answer.ensures c.args.options.total c.search_alone-answer.ensures
