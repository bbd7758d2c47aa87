use Rattle.std.proofs.Common.{◌≤◌, subst, sym}
use Rattle.std.proofs.lemmas.Result.{IfOk-weaker}
use Rattle.std.specs.Arc.{arc_value}
use Rattle.tt_proof.specs.ProofClaim.{ProofClaim, StandsAt}
use Rattle.tt_proof.specs.Strategy.{depth}
use Rattle.tt_share.specs.declared.answer.Answer.{Answer}
use Rattle.tt_share.specs.Answers.{IsAnswer, IsSettledAnswer}
use Rattle.tt_solve.proofs.ProofSolutions.{decided_within, stuck_for}
use Rattle.tt_solve.proofs.solving.solution_of_answer.Goals as goal

pub solution_of_proof-requires-clause-stands : goal.solution_of_proof-requires-clause-stands
solution_of_proof-requires-clause-stands c =
    let line = c.args.line.now in
    let is : IsSettledAnswer line c.args.options.limits (arc_value c.in-Settled.proof) c.in-Settled.first =
    subst (λ (a : Answer). IsAnswer line c.args.options.limits c.requires.answer.0 a) c.in-Settled.is c.requires.answer.1 in
    subst (λ (p : ProofClaim). StandsAt p line.frame line.state) (sym c.deref.ensures) is.stands

pub solution_of_proof-requires-clause-shallow : goal.solution_of_proof-requires-clause-shallow
solution_of_proof-requires-clause-shallow c =
    let line = c.args.line.now in
    let is : IsSettledAnswer line c.args.options.limits (arc_value c.in-Settled.proof) c.in-Settled.first =
    subst (λ (a : Answer). IsAnswer line c.args.options.limits c.requires.answer.0 a) c.in-Settled.is c.requires.answer.1 in
    subst (λ (p : ProofClaim). depth p.tree ≤ c.args.options.limits.depth) (sym c.deref.ensures) is.shallow

pub returns-in-Settled : goal.returns-in-Settled
returns-in-Settled c = λ total is.
    IfOk-weaker c.solution_of_proof.result _ _ (λ s h. decided_within c.args.line.now c.args.options.limits total c.args.options.cert s h) c.solution_of_proof.ensures

pub returns-in-Unsettled-2 : goal.returns-in-Unsettled-2
returns-in-Unsettled-2 c = λ total is.
    let stuck = subst (λ (a : Answer). IsAnswer c.args.line.now c.args.options.limits total a) c.in-Unsettled-2.is is in
    stuck_for c.args.line.now c.args.options.limits total c.in-Unsettled-2.stuck c.in-Unsettled-2.stuck.reason stuck
