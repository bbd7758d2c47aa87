use Rattle.std.proofs.Common.{◌≡◌, ℕ, Option, length, ap, subst, ◌∙◌}
use Rattle.tt_game.specs.Line.{LineWithUndo}
use Rattle.tt_game.specs.Turns.{legal_turns}
use Rattle.tt_search.specs.declared.limits.Limits.{Limits}
use Rattle.tt_share.specs.Answers.{IsAnswer}
use Rattle.tt_share.specs.inside.Results.{ResultsSoFar, KeepsTotal}
use Rattle.tt_share.specs.inside.Tallies.{IsGranted}
use Rattle.tt_share.proofs.Spending.{own_spent}
use Rattle.tt_share.proofs.alone.solve_one_within_total.Goals as goal

pub returns-in-Ok : goal.returns-in-Ok
returns-in-Ok g c =
    let first = c.in-Ok.results in
    let last = c.search_missing_until_win.new.self in
    let grants = c.search_missing_until_win.new.grants in
    let total : grants.total ≡ c.args.total = c.search_missing_until_win.ensures.source ∙ c.new-grants.ensures.total in
    let granted : IsGranted c.args.total grants.granted grants.refused = subst (λ (o : Option ℕ). IsGranted o grants.granted grants.refused) total grants.is_granted in
    let keeps : KeepsTotal c.args.total last = own_spent (length (legal_turns first.line.frame first.line.state)) first last _ _ c.args.total c.in-Ok.ensures.blank.none
    c.in-Ok.ensures.blank.unspent c.new-grants.ensures.granted granted c.search_missing_until_win.ensures.asks in
    let line : last.line ≡ c.args.line.now = ap (λ (p : ResultsSoFar). p.line) c.search_missing_until_win.ensures.same ∙ c.in-Ok.ensures.line in
    let limits : last.limits ≡ c.args.limits.now = ap (λ (p : ResultsSoFar). p.limits) c.search_missing_until_win.ensures.same ∙ c.in-Ok.ensures.limits in
    subst (λ (l : LineWithUndo). IsAnswer l c.args.limits.now c.args.total c.conclude_and_offer.result) line
    (subst (λ (m : Limits). IsAnswer last.line m c.args.total c.conclude_and_offer.result) limits (c.conclude_and_offer.ensures.answer c.args.total keeps))

pub returns-in-Err : goal.returns-in-Err
returns-in-Err g c = c.in-Err.ensures.answer c.args.total
