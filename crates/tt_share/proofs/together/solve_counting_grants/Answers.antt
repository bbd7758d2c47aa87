use Rattle.std.proofs.Common.{◌≡◌, ◌≤◌, ℕ, Option, Some, None, MatchOption, refl, subst, ◌∙◌, arith, zero-le}
use Rattle.std.proofs.lemmas.Option.{same_Some}
use Rattle.tt_game.specs.Line.{LineWithUndo}
use Rattle.tt_search.specs.declared.limits.Limits.{Limits}
use Rattle.tt_share.specs.Answers.{IsAnswer, AreSearchCounts}
use Rattle.tt_share.specs.inside.Results.{KeepsTotal}
use Rattle.tt_share.proofs.Noting.{if_some, none_expanded}
use Rattle.tt_share.proofs.together.solve_counting_grants.Goals as goal

-- what holds where there is a total, holds of it
of_total : (total : Option ℕ) (granted : ℕ) (P : Type 0) → (total ≡ None → granted ≡ 0) → ((n : ℕ) → total ≡ Some n → (granted ≤ n) × P)
    → MatchOption total (granted ≡ 0) (λ n. (granted ≤ n) × P)
of_total None granted P none h = none refl
of_total (Some n) granted P none h = h n refl

pub returns-in_default-clause-answer : goal.returns-in_default-clause-answer
returns-in_default-clause-answer g c = c.no_memory_answer.ensures c.args.line.now c.args.limits.now c.args.total

pub returns-in_default-clause-granted : goal.returns-in_default-clause-granted
returns-in_default-clause-granted g c = of_total c.args.total 0 _ (λ _. refl) (λ n is. (zero-le, c.no_memory_answer.ensures c.args.line.now c.args.limits.now (Some 0)))

pub returns-in_default-clause-counts : goal.returns-in_default-clause-counts
returns-in_default-clause-counts g c = if_some c.args.total _ (λ n is. none_expanded c.args.line.now c.args.limits.now c.requires.limits)

pub returns-in-Ok-search_together-clause-answer : goal.returns-in-Ok-search_together-clause-answer
returns-in-Ok-search_together-clause-answer g c =
    let last = c.search_together.new.results in
    let line = c.search_together.ensures.line.0 ∙ c.in-Ok-new_results_or_answer.ensures.line in
    let limits = c.search_together.ensures.line.1 ∙ c.in-Ok-new_results_or_answer.ensures.limits in
    subst (λ (l : LineWithUndo). IsAnswer l c.args.limits.now c.args.total c.conclude_and_offer.result) line
    (subst (λ (m : Limits). IsAnswer last.line m c.args.total c.conclude_and_offer.result) limits (c.conclude_and_offer.ensures.answer c.args.total c.in-Ok-search_together.ensures.spent.keeps))

pub returns-in-Ok-search_together-clause-granted : goal.returns-in-Ok-search_together-clause-granted
returns-in-Ok-search_together-clause-granted g c =
    let last = c.search_together.new.results in
    let granted : ℕ = c.in-Ok-search_together.granted in
    let spends = c.in-Ok-search_together.ensures.spent in
    let line = c.search_together.ensures.line.0 ∙ c.in-Ok-new_results_or_answer.ensures.line in
    let limits = c.search_together.ensures.line.1 ∙ c.in-Ok-new_results_or_answer.ensures.limits in
    of_total c.args.total granted _ spends.none (λ n is.
    let spent = spends.granted_is n is in
    let most = spends.keeps.within n is in
    let keeps : KeepsTotal (Some granted) last = record { within = λ m are. let same = same_Some granted m are in omega (arith, spent, same); all = λ has. (granted, refl, spent) } in (
      omega (arith, spent, most),
      subst (λ (l : LineWithUndo). IsAnswer l c.args.limits.now (Some granted) c.conclude_and_offer.result) line
          (subst (λ (m : Limits). IsAnswer last.line m (Some granted) c.conclude_and_offer.result) limits (c.conclude_and_offer.ensures.answer (Some granted) keeps)),
    ))

pub returns-in-Ok-search_together-clause-counts : goal.returns-in-Ok-search_together-clause-counts
returns-in-Ok-search_together-clause-counts g c =
    let last = c.search_together.new.results in
    let spends = c.in-Ok-search_together.ensures.spent in
    let line = c.search_together.ensures.line.0 ∙ c.in-Ok-new_results_or_answer.ensures.line in
    let limits = c.search_together.ensures.line.1 ∙ c.in-Ok-new_results_or_answer.ensures.limits in
    let counts : AreSearchCounts c.args.line.now c.args.limits.now last.spent = subst (λ (l : LineWithUndo). AreSearchCounts l c.args.limits.now last.spent) line
    (subst (λ (m : Limits). AreSearchCounts last.line m last.spent) limits c.conclude_and_offer.ensures.counts) in
    if_some c.args.total _ (λ n is. (last.spent, counts, spends.granted_is n is))

pub returns-in-Ok-new_results_or_answer-clause-answer : goal.returns-in-Ok-new_results_or_answer-clause-answer
returns-in-Ok-new_results_or_answer-clause-answer g c = c.no_memory_answer-in-Err-search_together.ensures c.args.line.now c.args.limits.now c.args.total

pub returns-in-Ok-new_results_or_answer-clause-granted : goal.returns-in-Ok-new_results_or_answer-clause-granted
returns-in-Ok-new_results_or_answer-clause-granted g c = of_total c.args.total 0 _ (λ _. refl) (λ n is.
    (zero-le, c.no_memory_answer-in-Err-search_together.ensures c.args.line.now c.args.limits.now (Some 0)))

pub returns-in-Ok-new_results_or_answer-clause-counts : goal.returns-in-Ok-new_results_or_answer-clause-counts
returns-in-Ok-new_results_or_answer-clause-counts g c = if_some c.args.total _ (λ n is. none_expanded c.args.line.now c.args.limits.now c.requires.limits)

pub returns-clause-answer : goal.returns-clause-answer
returns-clause-answer g c = c.in-Err.ensures.answer c.args.total

pub returns-clause-granted : goal.returns-clause-granted
returns-clause-granted g c = of_total c.args.total 0 _ (λ _. refl) (λ n is. (zero-le, c.in-Err.ensures.answer (Some 0)))

pub returns-clause-counts : goal.returns-clause-counts
returns-clause-counts g c = if_some c.args.total _ (λ n is. none_expanded c.args.line.now c.args.limits.now c.requires.limits)
